-- What a write makes of a range of the volume that it reaches.
use Rattle.std.proofs.Common.{◌≡◌, ℕ, ◌+◌, ◌-◌, ◌<◌, List, length, get_or, take, drop, sym, ◌∙◌, ap, arith, inl, inr, min, max}
use Rattle.std.proofs.lemmas.List.{places, same_lists, length-take, length-drop}
use Rattle.std.proofs.lemmas.Bool.{cases_lt}
use borrow.Rule.Slice.PartMut.{put_mid}
use Rattle.volume.specs.Volumes.{get_or-range, get_or-patched_before, get_or-patched_within, get_or-patched_after, length-range, length-patched}
use Rattle.volume.specs.Writes.{Placed, Fits, patched}

-- n bytes from the range's byte `at` on are the write's from its byte `from` on
pub range-patched : (volume : List ℕ) (w : Placed) → Fits (length volume) w → (offset len : ℕ) (old : List ℕ) → take len (drop offset volume) ≡ old → length old ≡ len → (at n from : ℕ) (ys : List ℕ)
    → offset + at ≡ max offset w.offset → w.offset + from ≡ max offset w.offset → offset + at + n ≡ min (offset + len) (w.offset + length w.bytes) → ys ≡ take n (drop from w.bytes)
    → take len (drop offset (patched volume w)) ≡ put_mid at n old ys
range-patched volume w fits offset len old was long at n from ys at_is from_is n_is is =
    let new_long : length (take len (drop offset (patched volume w))) ≡ len = length-range offset len (patched volume w) volume (length-patched volume w fits) ∙ ap length was ∙ long in
    let ys_long : length ys ≡ n = ap length is ∙ grind (arith, length-take, length-drop) in
    same_lists _ _ (new_long ∙ sym (grind (arith, places))) (λ k d lt.
    let below : k < len = omega (arith, new_long) in
    let was_at : get_or volume (offset + k) d ≡ get_or old k d = sym (get_or-range offset len volume k d below) ∙ ap (λ (l : List ℕ). get_or l k d) was in
    get_or-range offset len (patched volume w) k d below
    ∙ elim (cases_lt k at) [
      | inl before ↦ get_or-patched_before volume w fits (offset + k) d (omega arith) ∙ was_at ∙ grind (arith, places)
      | inr from_at ↦ elim (cases_lt k (at + n)) [
        | inl within ↦
            let there : get_or (put_mid at n old ys) k d ≡ get_or ys (k - at) d = grind (arith, places) in
            let same : offset + k - w.offset ≡ from + (k - at) = omega arith in
            get_or-patched_within volume w fits (offset + k) d (omega arith) (omega arith) ∙ ap (λ i. get_or w.bytes i d) same
            ∙ sym (there ∙ ap (λ (l : List ℕ). get_or l (k - at) d) is ∙ get_or-range from n w.bytes (k - at) d (omega arith))
        | inr after ↦ get_or-patched_after volume w fits (offset + k) d (omega arith) ∙ was_at ∙ grind (arith, places)
      ]
    ])
