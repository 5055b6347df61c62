-- What was found on the disks that returned.
use Rattle.std.specs.Prelude.{◌≡◌, ℕ, ◌<◌, ◌^◌, Bool, false, None, Some, List, map, slice_get}
use Rattle.configurations.specs.Record.{Record}
use Rattle.configurations.specs.declared.member.Member.{Member}
use Rattle.local_store.specs.About.{About, meaning_with}
use Rattle.local_store.specs.Meaning.{Meaning}
use Rattle.recovery.specs.Choice.{IsSource}
use Rattle.recovery.specs.declared.returned.Returned.{Returned}
use Rattle.recovery.specs.declared.returned.Returned.TheVariants.{Opened, Unopened}
use Rattle.folder.specs.Chain.{LeavesOut}
use Rattle.folder.specs.Disks.{IsDiskOf}
use Rattle.folder.specs.Refusal.{IsCausedBy}
use Rattle.folder.specs.declared.found.OnDisk.{OnDisk}
use Rattle.folder.specs.declared.found.OnDisk.TheVariants.{Nothing, Volume}
use Rattle.folder.specs.declared.refusal.Refusal.{Refusal}

-- the member whose store this is
abbrev pub member_in : About → Member
member_in about = record { slot = about.slot; incarnation = about.incarnation }

-- the disk on which this was found
abbrev pub disk_in : {S D : Type 0} → OnDisk S D → (S → D) → D
disk_in (Volume store) disk_of = disk_of store
disk_in (Nothing disk) disk_of = disk

-- a store that was found runs, its log is there, and its incarnation is one that disks are given
pub record IsRunning {S : Type 0} (about : S → About) (store : S) : Type 0 where
  pub given : 0 < (about store).incarnation
  pub limit : (about store).incarnation < 2 ^ 63
  pub runs : (about store).broken ≡ false
  pub here : (about store).lent ≡ None

-- what is told to the rule of recovery
abbrev pub returned_as : {S D : Type 0} → (S → About) → OnDisk S D → Returned
returned_as about (Volume store) = Opened (member_in (about store)) (about store).front
returned_as about (Nothing disk) = Unopened

-- where it is a store, it runs
abbrev pub MayRun : {S D : Type 0} → (S → About) → OnDisk S D → Type 0
MayRun about (Volume store) = IsRunning about store
MayRun about (Nothing disk) = Unit {0}

-- on a disk with these bytes stands a store that keeps what they mean, or they mean nothing
abbrev pub IsFound : {S D : Type 0} → (S → About) → (S → List ℕ → Type 0) → List ℕ → OnDisk S D → Type 0
IsFound about keeps bytes (Volume store) = (volume : List ℕ) × keeps store volume × IsDiskOf (meaning_with (about store) volume) bytes
IsFound about keeps bytes (Nothing disk) = (m : Meaning) → IsDiskOf m bytes → ⊥

-- the store at this place is that of the member
pub record IsMemberAt {S D : Type 0} (about : S → About) (found : List (OnDisk S D)) (place : ℕ) (member : Member) : Type 0 where
  pub store : S
  pub there : slice_get found place ≡ Some (Volume store)
  pub is : member ≡ member_in (about store)

-- a store stands there
abbrev pub IsVolumeAt : {S D : Type 0} → List (OnDisk S D) → ℕ → Type 0
IsVolumeAt {S} found place = (store : S) × (slice_get found place ≡ Some (Volume store))

-- the source for the recorded chain stands at this place, and to go on from it would leave others out unasked
pub record IsLeavingOut {S D : Type 0} (about : S → About) (alone : Bool) (recorded : Record) (found : List (OnDisk S D)) : Type 0 where
  pub place : ℕ
  pub there : IsVolumeAt found place
  pub source : IsSource recorded.members (map (returned_as about) found) place
  pub leaves : LeavesOut alone recorded

-- the disk at this place was handed back, and has failed since where the refusal is the device's
pub record IsFault {D : Type 0} (failures : D → ℕ) (disks back : List D) (place : ℕ) (r : Refusal) : Type 0 where
  pub old : D
  pub new : D
  pub was : slice_get disks place ≡ Some old
  pub is : slice_get back place ≡ Some new
  pub cause : IsCausedBy (failures old) (failures new) r
