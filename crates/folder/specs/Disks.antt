-- What the disks of a folder mean, and from which of them a chain goes on.
use Rattle.std.specs.Prelude.{◌≡◌, ℕ, ◌*◌, ◌<◌, ◌≤◌, List, Some, length, replicate, slice_get}
use Rattle.configurations.specs.declared.member.Member.{Member}
use Rattle.home_blocks.specs.Places.{disk_size_of}
use Rattle.local_store.specs.Meaning.{Meaning, Means}
use Rattle.recovery.specs.declared.returned.Returned.{Returned}
use Rattle.recovery.specs.declared.returned.Returned.TheVariants.{Opened, Unopened}
use Rattle.volume.specs.declared.geometry.Geometry.{Geometry}

-- a volume of zeros, before the first write
abbrev pub blank_meaning : ℕ → Geometry → Meaning
blank_meaning slot g = record { slot = slot; incarnation = 1; geometry = g; front = 0; volume = replicate (4096 * g.blocks) 0 }

-- the member that a disk of this meaning is
abbrev pub member_of : Meaning → Member
member_of m = record { slot = m.slot; incarnation = m.incarnation }

-- the bytes of a disk mean this, the disk is as long as it has to be, and its incarnation is one that disks are given
pub record IsDiskOf (m : Meaning) (bytes : List ℕ) : Type 0 where
  pub means : Means m bytes
  pub room : disk_size_of m.geometry ≤ length bytes
  pub given : 0 < m.incarnation

-- at this place of the list is such a disk, that of the chain's member at this seat
pub record IsReturned (members : List Member) (disks : List (List ℕ)) (place seat : ℕ) (m : Meaning) : Type 0 where
  pub bytes : List ℕ
  pub there : slice_get disks place ≡ Some bytes
  pub is : IsDiskOf m bytes
  pub recorded : slice_get members seat ≡ Some (member_of m)

-- none of the disks is the chain's
abbrev pub NoneIsReturned : List Member → List (List ℕ) → Type 0
NoneIsReturned members disks = (place seat : ℕ) (m : Meaning) → IsReturned members disks place seat m → ⊥

-- The chain goes on from the disk of this meaning: of the chain's disks it is one with the greatest front; among these
-- the earliest in the chain, and among these the earliest in the list.
pub record IsSourceOf (members : List Member) (disks : List (List ℕ)) (place : ℕ) (m : Meaning) : Type 0 where
  pub seat : ℕ
  pub is : IsReturned members disks place seat m
  pub greatest : (p s : ℕ) (other : Meaning) → IsReturned members disks p s other → other.front ≤ m.front
  pub in_chain : (p s : ℕ) (other : Meaning) → IsReturned members disks p s other → other.front ≡ m.front → seat ≤ s
  pub in_list : (p s : ℕ) (other : Meaning) → IsReturned members disks p s other → other.front ≡ m.front → s ≡ seat → place ≤ p

-- what is told of a disk with these bytes: its member and front, or that it can't be opened
abbrev pub IsToldOf : List ℕ → Returned → Type 0
IsToldOf bytes (Opened member front) = (m : Meaning) × IsDiskOf m bytes × (member ≡ member_of m) × (front ≡ m.front)
IsToldOf bytes Unopened = (m : Meaning) → IsDiskOf m bytes → ⊥
