-- Writes that have the whole of a block, and lemmas on them for the crates above.
use Rattle.std.specs.Prelude.{◌≡◌, ℕ, ◌+◌, ◌*◌, Bool, true, false, not, ◌&&◌, ◌||◌, nat_le, if◌then◌else◌, List, [], ◌∷◌, length}
use Rattle.std.specs.List.{list_any}
use Rattle.std.proofs.Common.{inl, inr, refl}
use Rattle.std.proofs.lemmas.Bool.{cases_Bool, false≢true, not-false, and_cases, or_parts, both_ways}
use Rattle.volume.specs.Writes.{Placed, touches}

-- whether the write has each byte of the block
abbrev pub has_whole : ℕ → Placed → Bool
has_whole block w = nat_le w.offset (4096 * block) && nat_le (4096 * block + 4096) (w.offset + length w.bytes)

-- whether the last of the writes that touches the block has each byte of it
abbrev pub ends_whole : ℕ → List Placed → Bool
ends_whole block [] = false
ends_whole block (w ∷ ws) = if list_any (touches block) ws then ends_whole block ws else has_whole block w

-- where some write touches the block, and each that does has the whole of it, the last of them has
pub ends_whole-all : (b : ℕ) (writes : List Placed) → list_any (touches b) writes ≡ true → list_any (λ w. touches b w && not (has_whole b w)) writes ≡ false → ends_whole b writes ≡ true
ends_whole-all b [] touched whole = absurd (false≢true touched)
ends_whole-all b (w ∷ ws) touched whole =
    let parts = or_parts (touches b w && not (has_whole b w)) (list_any (λ x. touches b x && not (has_whole b x)) ws) whole in
    elim (cases_Bool (list_any (touches b) ws)) [
      | inl later ↦ rw later (ends_whole-all b ws later parts.1)
      | inr none ↦ rw none (elim (and_cases (touches b w) (not (has_whole b w)) parts.0) [
        | inl apart ↦ absurd (both_ways (touches b w || list_any (touches b) ws) (rw (apart, none) refl) touched)
        | inr own ↦ not-false (has_whole b w) own
      ])
    ]
