-- The rule of recovery: which of the disks that returned is the source.
use Rattle.std.specs.Prelude.{◌≡◌, ℕ, ◌≤◌, List, Some, slice_get}
use Rattle.configurations.specs.declared.member.Member.{Member}
use Rattle.recovery.specs.declared.returned.Returned.{Returned}
use Rattle.recovery.specs.declared.returned.Returned.TheVariants.{Opened}

-- at this place of the list stands an opened disk with this front: the chain's member at this seat
pub record IsRecorded (chain : List Member) (returned : List Returned) (place seat front : ℕ) : Type 0 where
  pub member : Member
  pub opened : slice_get returned place ≡ Some (Opened member front)
  pub recorded : slice_get chain seat ≡ Some member

-- none of the disks is the chain's
abbrev pub NoneRecorded : List Member → List Returned → Type 0
NoneRecorded chain returned = (place seat front : ℕ) → IsRecorded chain returned place seat front → ⊥

-- the disk at this place is the chain's with the greatest front; among these the earliest in the chain, and among
-- these the earliest in the list
pub record IsSource (chain : List Member) (returned : List Returned) (place : ℕ) : Type 0 where
  pub seat : ℕ
  pub front : ℕ
  pub is : IsRecorded chain returned place seat front
  pub greatest : (p s f : ℕ) → IsRecorded chain returned p s f → f ≤ front
  pub in_chain : (p s f : ℕ) → IsRecorded chain returned p s f → f ≡ front → seat ≤ s
  pub in_list : (p s f : ℕ) → IsRecorded chain returned p s f → f ≡ front → s ≡ seat → place ≤ p
