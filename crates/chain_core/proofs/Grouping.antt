-- Which blocks a group of writes touches.
use Rattle.std.proofs.Common.{◌≡◌, ℕ, ◌+◌, ◌-◌, ◌/◌, ◌<◌, ◌≤◌, Bool, true, false, [], ◌∷◌, ◌++◌, length, get_or, take, refl, sym, ◌∙◌, ap, arith, subst, inl, inr}
use Rattle.std.specs.Prelude.{All, ◌&&◌, ◌||◌, map, nat_le, nat_lt, not}
use Rattle.std.specs.BTreeSet.{BTreeSet, IsEmpty, Updates, contains}
use Rattle.std.specs.List.{list_any}
use Rattle.std.specs.Ordering.{nat_cmp}
use Rattle.std.proofs.lemmas.Bool.{cases_eq}
use Rattle.std.proofs.lemmas.Bool.Decides.{nat_tests}
use Rattle.std.proofs.lemmas.List.{take_more, map-append}
use Rattle.std.proofs.lemmas.List.Folds.{list_any-append}
use Rattle.version_table.specs.Held.{Held, applied_of, writes_upto}
use Rattle.version_table.specs.declared.kept.Kept.{Kept}
use Rattle.volume.specs.Writes.{Fits, Placed, touches}
use Rattle.chain_steps.specs.Steps.{blanks}

-- the blocks from the first to before the last are there too
abbrev pub AreAdded : BTreeSet ℕ → BTreeSet ℕ → ℕ → ℕ → Type 0
AreAdded old new first past = (b : ℕ) → contains nat_cmp new b ≡ (contains nat_cmp old b || (nat_le first b && nat_lt b past))

pub added_none : (blocks : BTreeSet ℕ) (first : ℕ) → AreAdded blocks blocks first first
added_none blocks first = λ b. grind (arith, nat_tests)

pub added_more : (old mid new : BTreeSet ℕ) (first k : ℕ) → first ≤ k → AreAdded old mid first k → Updates nat_cmp mid new k true → AreAdded old new first (k + 1)
added_more old mid new first k le before one = λ b. grind (arith, nat_tests, before b, one.0 b)

-- those of them that pass a test
abbrev pub AreAddedIf : (ℕ → Bool) → BTreeSet ℕ → BTreeSet ℕ → ℕ → ℕ → Type 0
AreAddedIf p old new first past = (b : ℕ) → contains nat_cmp new b ≡ (contains nat_cmp old b || ((nat_le first b && nat_lt b past) && p b))

pub added_if_none : (p : ℕ → Bool) (blocks : BTreeSet ℕ) (first : ℕ) → AreAddedIf p blocks blocks first first
added_if_none p blocks first = λ b. grind (arith, nat_tests)

pub added_if_more : (p : ℕ → Bool) (old mid new : BTreeSet ℕ) (first k : ℕ) → first ≤ k → p k ≡ true → AreAddedIf p old mid first k → Updates nat_cmp mid new k true → AreAddedIf p old new first (k + 1)
added_if_more p old mid new first k le passes before one = λ b. elim (cases_eq b k) [
  | inl here ↦ one.0 b ∙ rw here (grind (arith, nat_tests, passes))
  | inr other ↦ one.0 b ∙ grind (arith, nat_tests, before b, other)
]

pub added_if_pass : (p : ℕ → Bool) (old new : BTreeSet ℕ) (first k : ℕ) → first ≤ k → p k ≡ false → AreAddedIf p old new first k → AreAddedIf p old new first (k + 1)
added_if_pass p old new first k le fails before = λ b. elim (cases_eq b k) [
  | inl here ↦ before b ∙ rw here (grind (arith, nat_tests, fails))
  | inr other ↦ before b ∙ grind (arith, nat_tests, other)
]

-- the blocks of a write
pub touched_between : (w : Placed) (b : ℕ) → 0 < length w.bytes → touches b w ≡ (nat_le (w.offset / 4096) b && nat_lt b ((w.offset + length w.bytes - 1) / 4096 + 1))
touched_between w b some = grind (arith, nat_tests)

pub touched_none : (w : Placed) (b : ℕ) → length w.bytes ≡ 0 → touches b w ≡ false
touched_none w b none = grind (arith, nat_tests)

one_any : (p : Placed → Bool) (w : Placed) → p w ≡ list_any p (w ∷ [])
one_any p w = grind arith

-- no writes yet
pub first_of : (test : ℕ → Placed → Bool) (table : Held) (blocks : BTreeSet ℕ) → IsEmpty blocks → (b : ℕ) → contains nat_cmp blocks b ≡ list_any (test b) (writes_upto table table.forgotten)
first_of test table blocks none b = let zero : table.forgotten - table.forgotten ≡ 0 = omega arith in rw (none, zero) refl

-- one write more
pub more_of : (test : ℕ → Placed → Bool) (table : Held) (old new : BTreeSet ℕ) (n : ℕ) (kept : Kept) → table.forgotten ≤ n → n < applied_of table → ((d : Kept) → kept ≡ get_or table.kept (n + 1 - table.forgotten - 1) d)
    → ((b : ℕ) → contains nat_cmp old b ≡ list_any (test b) (writes_upto table n)) → ((b : ℕ) → contains nat_cmp new b ≡ (contains nat_cmp old b || test b kept.write))
    → (b : ℕ) → contains nat_cmp new b ≡ list_any (test b) (writes_upto table (n + 1))
more_of test table old new n kept from below is before added = λ b.
    let at : n + 1 - table.forgotten ≡ n - table.forgotten + 1 = omega arith in
    let place : n + 1 - table.forgotten - 1 ≡ n - table.forgotten = omega arith in
    let one : get_or table.kept (n - table.forgotten) kept ≡ kept = ap (λ i. get_or table.kept i kept) (sym place) ∙ sym (is kept) in
    let whole : writes_upto table (n + 1) ≡ writes_upto table n ++ kept.write ∷ [] =
    ap (λ m. map (λ (k : Kept). k.write) (take m table.kept)) at
    ∙ ap (map (λ (k : Kept). k.write)) (take_more table.kept (n - table.forgotten) kept (omega arith) ∙ ap (λ k. take (n - table.forgotten) table.kept ++ k ∷ []) one)
    ∙ map-append (λ (k : Kept). k.write) (take (n - table.forgotten) table.kept) (kept ∷ []) in
    let ends : list_any (test b) (writes_upto table (n + 1)) ≡ (list_any (test b) (writes_upto table n) || list_any (test b) (kept.write ∷ [])) =
    ap (list_any (test b)) whole ∙ list_any-append (test b) (writes_upto table n) (kept.write ∷ []) in
    added b ∙ ap (λ t. t || test b kept.write) (before b) ∙ ap (λ t. list_any (test b) (writes_upto table n) || t) (one_any (test b) kept.write) ∙ sym ends

-- a write does more to the block than make the whole block zeros
abbrev pub does_more : ℕ → Placed → Bool
does_more b w = touches b w && not (blanks b w)

-- each kept write lies in the largest volume
pub kept_fits : (table : Held) (size n : ℕ) (kept : Kept) → All (λ k. Fits size k.write) table.kept → table.forgotten ≤ n → n < applied_of table → ((d : Kept) → kept ≡ get_or table.kept (n + 1 - table.forgotten - 1) d) → Fits size kept.write
kept_fits table size n kept inside from below is = subst (λ (k : Kept). Fits size k.write) (sym (is kept)) (inside (n + 1 - table.forgotten - 1) kept (omega arith))
