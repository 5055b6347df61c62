-- What came of opening a folder's files, slot by slot.
use Rattle.std.specs.Prelude.{◌≡◌, ℕ, ◌+◌, ◌≤◌, List, [], ◌∷◌, Option, Some, Result, Ok, Err, All, IfErr, IfSome, IsSomeAnd, slice_get}
use Rattle.std.specs.IoError.{error_kind}
use Rattle.std.specs.declared.io.ErrorKind.TheVariants.{NotFound}
use Rattle.local_store.specs.Meaning.{Means}
use Rattle.volume.specs.declared.geometry.Geometry.{Geometry}
use Rattle.folder.specs.Disks.{blank_meaning}
use Rattle.folder.specs.Refusal.{IsOfFiles}
use Rattle.folder.specs.declared.failure.Failure.{Failure}
use Rattle.folder.specs.declared.names.FileName.TheVariants.{Slot}

-- the system said that there is no such file
abbrev pub IsNotFound : Failure → Type 0
IsNotFound failure = IsSomeAnd failure.reason (λ said. error_kind said ≡ NotFound)

-- these came of the files of the slots from this one up
abbrev pub AreOpenings : {D : Type 0} → ℕ → List (Result D Failure) → Type 0
AreOpenings slot [] = Unit {0}
AreOpenings slot (one ∷ rest) = IfErr one (λ failure. (failure.file ≡ Slot slot) × IsOfFiles failure.refusal) × AreOpenings (slot + 1) rest

-- the disks of the files that are there
abbrev pub disks_there : {D : Type 0} → List (Result D Failure) → List D
disks_there [] = []
disks_there (Ok disk ∷ rest) = disk ∷ disks_there rest
disks_there (Err failure ∷ rest) = disks_there rest

-- and their slots, from this one up
abbrev pub slots_there : {D : Type 0} → ℕ → List (Result D Failure) → List ℕ
slots_there slot [] = []
slots_there slot (Ok disk ∷ rest) = slot ∷ slots_there (slot + 1) rest
slots_there slot (Err failure ∷ rest) = slots_there (slot + 1) rest

-- each of the others isn't there
abbrev pub OthersAreAbsent : {D : Type 0} → List (Result D Failure) → Type 0
OthersAreAbsent openings = All (λ one. IfErr one IsNotFound) openings

-- one of the files failed so, though it may be there
pub record IsFailureAmong {D : Type 0} (openings : List (Result D Failure)) (failure : Failure) : Type 0 where
  pub slot : ℕ
  pub there : slice_get openings slot ≡ Some (Err failure)
  pub other : ¬ IsNotFound failure

-- the slots ascend, from this one on
abbrev pub AreAscendingFrom : ℕ → List ℕ → Type 0
AreAscendingFrom least [] = Unit {0}
AreAscendingFrom least (slot ∷ rest) = (least ≤ slot) × AreAscendingFrom (slot + 1) rest

-- whatever a stop leaves of each disk means a volume of zeros, of the member at the slot of its place
abbrev pub AreBlank : {D : Type 0} → (D → List ℕ → Type 0) → Geometry → List D → Type 0
AreBlank may_leave geometry disks = (slot : ℕ) → IfSome (slice_get disks slot) (λ disk. (c : List ℕ) → may_leave disk c → Means (blank_meaning slot geometry) c)
