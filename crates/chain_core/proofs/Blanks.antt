-- Blocks that writes only make zeros.
use Rattle.std.proofs.Common.{◌≡◌, ℕ, ◌+◌, ◌*◌, ◌≤◌, Bool, true, false, List, length, arith, inl, inr, subst}
use Rattle.std.specs.Prelude.{◌&&◌, All, Contains, not}
use Rattle.std.specs.List.{list_any}
use Rattle.std.proofs.lemmas.Bool.{both_ways, cases_Bool}
use Rattle.std.proofs.lemmas.Bool.Decides.{nat_tests}
use Rattle.std.proofs.lemmas.List.Folds.{Any-from_list_any, list_any-from_Any}
use Rattle.version_table.specs.Whole.{ends_whole, ends_whole-all, has_whole}
use Rattle.volume.specs.Writes.{Fits, Placed, touches}
use Rattle.chain_steps.specs.Steps.{blanks, is_written}

-- where no write passes a test, none passes a stronger one
none_more : (p q : Placed → Bool) → ((w : Placed) → p w ≡ true → q w ≡ true) → (ws : List Placed) → list_any q ws ≡ false → list_any p ws ≡ false
none_more p q weaker ws none = elim (cases_Bool (list_any p ws)) [
  | inl some ↦ absurd (let (k, w, lt, is, at) = Any-from_list_any p ws some in both_ways (list_any q ws) none (list_any-from_Any q ws (k, w, lt, is, weaker w at)))
  | inr fails ↦ fails
]

-- the last of them that touches the block has the whole of it
pub blank_is_whole : (b : ℕ) (ws : List Placed) → list_any (touches b) ws ≡ true → is_written ws b ≡ false → ends_whole b ws ≡ true
blank_is_whole b ws touched only = ends_whole-all b ws touched (none_more (λ w. touches b w && not (has_whole b w)) (λ w. touches b w && not (blanks b w)) (λ w is. grind (arith, nat_tests, is)) ws only)

-- one of them lies where they all do
pub one_fits : (size : ℕ) (ws : List Placed) (w : Placed) → All (Fits size) ws → Contains ws w → Fits size w
one_fits size ws w fit (k, lt, is) = subst (Fits size) is (fit k w lt)

-- where a write begins and ends that has a block whole
pub begins_before : (b : ℕ) (w : Placed) → has_whole b w ≡ true → w.offset ≤ 4096 * b
begins_before b w whole = grind (arith, nat_tests, whole)

pub ends_behind : (b : ℕ) (w : Placed) → has_whole b w ≡ true → 4096 * b + 4096 ≤ w.offset + length w.bytes
ends_behind b w whole = grind (arith, nat_tests, whole)
