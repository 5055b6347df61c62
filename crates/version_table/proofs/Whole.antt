-- A block that a write has whole doesn't depend on what it was before: lemmas that the crates above cite.
use Rattle.std.proofs.Common.{◌≡◌, ℕ, ◌+◌, ◌-◌, ◌*◌, ◌<◌, ◌≤◌, true, false, List, [], ◌∷◌, length, get_or, take, sym, ◌∙◌, ap, arith, inl, inr}
use Rattle.std.specs.Prelude.{◌||◌, All, fold}
use Rattle.std.specs.List.{list_any}
use Rattle.std.proofs.lemmas.Bool.{cases_Bool, false≢true}
use Rattle.std.proofs.lemmas.Bool.Decides.{nat_tests}
use Rattle.std.proofs.lemmas.List.{get_or-map, get_or-take, length-map, length-take}
use Rattle.std.proofs.lemmas.List.Elements.{All-head, All-tail}
use Rattle.std.proofs.lemmas.List.Folds.{list_any_at, list_any_none}
use Rattle.volume.specs.Volumes.{block_of-patched_whole, length-patched, range-patched_same}
use Rattle.volume.specs.Writes.{Fits, IsTouched, Placed, block_of, patched}
use Rattle.version_table.specs.Held.{Held, writes_upto}
use Rattle.version_table.specs.Whole.{has_whole}
use Rattle.version_table.specs.declared.kept.Kept.{Kept}

-- a write that has the whole block touches it
whole_touches : (b : ℕ) (w : Placed) → has_whole b w ≡ true → IsTouched w b
whole_touches b w whole = (grind (arith, nat_tests), grind (arith, nat_tests), grind (arith, nat_tests))

pub untouched_is_not_whole : (b : ℕ) (w : Placed) → ¬ IsTouched w b → has_whole b w ≡ false
untouched_is_not_whole b w apart = elim (cases_Bool (has_whole b w)) [
  | inl whole ↦ absurd (apart (whole_touches b w whole))
  | inr other ↦ other
]

-- the block that the write has whole is the write's, over each volume
pub own_block : (volume other : List ℕ) (w : Placed) (b : ℕ) → length volume ≡ length other → Fits (length volume) w → has_whole b w ≡ true
    → block_of (patched volume w) b ≡ block_of (patched other w) b
own_block volume other w b long fits whole =
    let from : w.offset ≤ 4096 * b = grind (arith, nat_tests) in
    let upto : 4096 * b + 4096 ≤ w.offset + length w.bytes = grind (arith, nat_tests) in
    block_of-patched_whole volume w b fits from upto ∙ sym (block_of-patched_whole other w b (omega arith) from upto)

-- volumes that have the same block have the same one after writes
same_after : (volume other : List ℕ) (ws : List Placed) (b : ℕ) → length volume ≡ length other → All (Fits (length volume)) ws → block_of volume b ≡ block_of other b
    → block_of (fold patched volume ws) b ≡ block_of (fold patched other ws) b
unfolding block_of
same_after volume other [] b long fit same = same
same_after volume other (w ∷ ws) b long fit same =
    let fits = All-head (Fits (length volume)) w ws fit in
    let fits_other : Fits (length other) w = omega arith in
    let longer = length-patched volume w fits in
    same_after (patched volume w) (patched other w) ws b (longer ∙ long ∙ sym (length-patched other w fits_other)) (rw longer (All-tail (Fits (length volume)) w ws fit))
    (range-patched_same volume other w (4096 * b) 4096 long fits same)

-- a block that one of the writes has whole is the same after them, over each volume that is as long
pub whole_same : (volume other : List ℕ) (ws : List Placed) (b : ℕ) → length volume ≡ length other → All (Fits (length volume)) ws → list_any (has_whole b) ws ≡ true
    → block_of (fold patched volume ws) b ≡ block_of (fold patched other ws) b
whole_same volume other [] b long fit whole = absurd (false≢true whole)
whole_same volume other (w ∷ ws) b long fit whole =
    let fits = All-head (Fits (length volume)) w ws fit in
    let fits_other : Fits (length other) w = omega arith in
    let longer = length-patched volume w fits in
    let as_long = longer ∙ long ∙ sym (length-patched other w fits_other) in
    let rest : All (Fits (length (patched volume w))) ws = rw longer (All-tail (Fits (length volume)) w ws fit) in
    elim (cases_Bool (has_whole b w)) [
      | inl own ↦ same_after (patched volume w) (patched other w) ws b as_long rest (own_block volume other w b long fits own)
      | inr apart ↦ whole_same (patched volume w) (patched other w) ws b as_long rest (ap (λ t. t || list_any (has_whole b) ws) (sym apart) ∙ whole)
    ]

-- one of the kept writes has the whole block
pub one_is_whole : (t : Held) (j b i : ℕ) (d : Kept) → i < j - t.forgotten → i < length t.kept → has_whole b (get_or t.kept i d).write ≡ true
    → list_any (has_whole b) (writes_upto t j) ≡ true
one_is_whole t j b i d within below whole =
    let first : i < length (take (j - t.forgotten) t.kept) = omega (arith, length-take (j - t.forgotten) t.kept) in
    let at : get_or (writes_upto t j) i d.write ≡ (get_or t.kept i d).write =
    get_or-map (λ (k : Kept). k.write) (take (j - t.forgotten) t.kept) i d d.write first ∙ ap (λ (k : Kept). k.write) (get_or-take (j - t.forgotten) t.kept i d within) in
    list_any_at (has_whole b) (writes_upto t j) i d.write (omega (arith, first, length-map (take (j - t.forgotten) t.kept) (λ (k : Kept). k.write))) (ap (has_whole b) at ∙ whole)

-- none of them has
pub none_is_whole : (t : Held) (j b : ℕ) → ((i : ℕ) (d : Kept) → i < j - t.forgotten → has_whole b (get_or t.kept i d).write ≡ false) → list_any (has_whole b) (writes_upto t j) ≡ false
none_is_whole t j b none =
    list_any_none (has_whole b) (writes_upto t j) (λ i w lt.
    let long = length-map (take (j - t.forgotten) t.kept) (λ (k : Kept). k.write) in
    let first : i < length (take (j - t.forgotten) t.kept) = omega (arith, lt, long) in
    let d : Kept = record { number = 0; write = w; origin = record { slot = 0; incarnation = 0; ticket = 0 } } in
    let within : i < j - t.forgotten = omega (arith, first, length-take (j - t.forgotten) t.kept) in
    ap (has_whole b) (get_or-map (λ (k : Kept). k.write) (take (j - t.forgotten) t.kept) i d w first ∙ ap (λ (k : Kept). k.write) (get_or-take (j - t.forgotten) t.kept i d within))
    ∙ none i d within)
