-- Where pending blocks stand.
use Rattle.std.proofs.Common.{◌+◌, ◌-◌, ◌<◌, ◌≤◌, ℕ, List, length, arith, false, inl, inr, refl, subst}
use Rattle.std.specs.Prelude.{IsSome, Option, None}
use Rattle.std.proofs.lemmas.Bool.{both_ways, cases_lt}
use Rattle.std.proofs.lemmas.List.{get_or_past}
use Rattle.flusher.specs.Plan.{IsPending, IsWithin}

none_isnt : (T : Type 0) → IsSome {T = T} None → ⊥
none_isnt T is = both_ways false refl is

-- a pending block has a place
pub has_place : {T : Type 0} (pending : List (Option T)) (block : ℕ) → IsPending pending block → block < length pending
has_place {T} pending block is = elim (cases_lt block (length pending)) [
  | inl below ↦ below
  | inr past ↦ absurd (none_isnt T (subst (λ (place : Option T). IsSome place) (get_or_past pending block None past) is))
]

-- and so has a whole run
pub run_has_place : {T : Type 0} (pending : List (Option T)) (first count : ℕ) → 0 < count → ((block : ℕ) → IsWithin first count block → IsPending pending block) → first + count ≤ length pending
run_has_place pending first count some whole =
    omega (arith, some, has_place pending (first + count - 1) (whole (first + count - 1) (omega (arith, some), omega (arith, some))))
