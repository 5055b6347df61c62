-- How a chain goes on from a disk of it: what is recorded, and what a recovery leaves that was broken off.
use Rattle.std.specs.Prelude.{◌≡◌, ◌⊎◌, ℕ, ◌+◌, ◌<◌, ◌≤◌, ◌==◌, Bool, true, false, Some, List, [], ◌∷◌, insert, length, remove, slice_get}
use Rattle.std.specs.List.{AllZip, list_any}
use Rattle.configurations.specs.Record.{AreMembers, Record}
use Rattle.configurations.specs.declared.member.Member.{Member}
use Rattle.disk_model.specs.Disk.{NothingNew, Only}
use Rattle.disk_model.specs.Memory.{failures_of, given_of, may_be_left, most_failures_of, size_of}
use Rattle.disk_model.specs.declared.content.Cut.{Cut}
use Rattle.disk_model.specs.declared.memory.MemDisk.{MemDisk}
use Rattle.gate_journal.specs.declared.batch.TheConstants.{MAX_NUMBER}
use Rattle.local_store.specs.About.{About}
use Rattle.local_store.specs.Meaning.{Meaning, Means}
use Rattle.local_store.specs.Refusal.{IsCaused}
use Rattle.local_store.specs.declared.refusal.Refusal as store
use Rattle.chain_model.specs.View.{is_in}
use Rattle.life.specs.Begun.{AreOfMember, BeginsWith, IsCut, IsOfMember, MeansStill, stores_of}
use Rattle.life.specs.Managed.{IsAtRest, Managed, StandsAs, StandsOn}
use Rattle.life.specs.declared.managed.SlotDisk.{SlotDisk}
use Rattle.life.specs.declared.refusal.Refusal.{Refusal}
use Rattle.life.specs.declared.refusal.Refusal.TheVariants.{Config, Memory, NoneReturned, NotInChain, Store}
use Rattle.life.specs.Refusal.{IsOfMemory, IsStopOf}
use Rattle.configurations.specs.declared.refusal.Refusal.TheVariants.{NotNext}
use Rattle.recovery.specs.Choice.{IsSource, NoneRecorded}
use Rattle.recovery.specs.declared.returned.Returned.{Returned}
use Rattle.recovery.specs.declared.returned.Returned.TheVariants.{Opened, Unopened}

-- the record has the member whose disk this means
abbrev pub HasMember : Record → Meaning → Type 0
HasMember r meaning = is_in r meaning.slot meaning.incarnation ≡ true

-- the member whose disk means this, as it is recorded
abbrev pub recorded_as : Meaning → Member
recorded_as meaning = record { slot = meaning.slot; incarnation = meaning.incarnation }

-- the record of this member alone, which follows this one
abbrev pub alone_behind : Record → Member → Record
alone_behind r member = record { epoch = r.epoch + 1; members = member ∷ [] }

-- The disk is that of a member of the chain that is recorded. This goes on alone, with the next epoch, without clients: at the front that
-- the disk means, with the volume there. Where a recovery was broken off behind its record, the epoch is the one after that.
pub record Recovers {S : Type 0} (about : S → About) (keeps : S → List ℕ → Type 0) (may_leave_now : S → List ℕ → Type 0) (disk config : MemDisk) (new : Managed S) : Type 0 where
  pub recorded : Record
  pub meaning : Meaning
  pub stands : StandsOn (given_of config) recorded
  pub means : Means meaning (given_of disk)
  pub has : HasMember recorded meaning
  pub later : (new.world.chain.recorded.epoch ≡ recorded.epoch + 1) ⊎ (new.world.chain.recorded.epoch ≡ recorded.epoch + 2)
  pub alone : new.world.chain.recorded.members ≡ recorded_as meaning ∷ []
  pub member : AreOfMember about meaning (stores_of new.world)
  pub begins : BeginsWith about keeps may_leave_now meaning.geometry meaning.front meaning.volume new.world
  pub rests : IsAtRest new

-- the disk was only read
pub record IsUnwritten (disk back : MemDisk) : Type 0 where
  pub same : given_of back ≡ given_of disk
  pub leaves : NothingNew (may_be_left disk) (may_be_left back)

-- the disk is none of the recorded chain
pub record IsStranger (disk config : MemDisk) : Type 0 where
  pub recorded : Record
  pub meaning : Meaning
  pub stands : StandsOn (given_of config) recorded
  pub means : Means meaning (given_of disk)
  pub out : is_in recorded meaning.slot meaning.incarnation ≡ false

-- whatever a stop may leave has the record of this member alone, which follows the one that stood on the configuration's disk
pub record IsRecordedAlone (disk config back : MemDisk) : Type 0 where
  pub recorded : Record
  pub meaning : Meaning
  pub stands : StandsOn (given_of config) recorded
  pub means : Means meaning (given_of disk)
  pub has : HasMember recorded meaning
  pub each : (c : List ℕ) → may_be_left back c → StandsOn c (alone_behind recorded (recorded_as meaning))

-- Whatever a stop may leave of the configuration's disk that came back has the record that it had, or the next one, of the member of this
-- disk alone, with the next number, if nothing else could be left.
abbrev pub RecordsStill : MemDisk → MemDisk → MemDisk → Type 0
RecordsStill disk config back = (r : Record) (number : ℕ) → StandsAs (given_of config) r number → Only (given_of config) (may_be_left config) → (c : List ℕ) → may_be_left back c
    → StandsAs c r number ⊎ ((meaning : Meaning) × Means meaning (given_of disk) × HasMember r meaning × StandsAs c (alone_behind r (recorded_as meaning)) (number + 1))

-- a record stands on the configuration's disk
pub record HasChain (config : MemDisk) : Type 0 where
  pub recorded : Record
  pub stands : StandsOn (given_of config) recorded
  pub long : 8192 ≤ size_of config

-- the disk is some member's, and a record stands on the configuration's disk
pub record MayReturn (disk config : MemDisk) : Type 0 where
  pub member : IsOfMember disk
  pub recorded : Record
  pub stands : StandsOn (given_of config) recorded
  pub long : 8192 ≤ size_of config

-- ---- of several disks

-- What a disk is seen as: a member's, by its slot, its incarnation and its front; or it isn't a member's.
abbrev pub IsSeenAs : MemDisk → Returned → Type 0
IsSeenAs disk (Opened member front) = (is : IsOfMember disk) × (member ≡ recorded_as is.meaning) × (front ≡ is.meaning.front)
IsSeenAs disk Unopened = ¬ IsOfMember disk

-- whether the disk at a place is one of those that return
abbrev pub comes_back : List ℕ → ℕ → Bool
comes_back returned place = list_any (λ k. k == place) returned

-- the others aren't looked at
abbrev pub IsSeenIf : Bool → MemDisk → Returned → Type 0
IsSeenIf true disk seen = IsSeenAs disk seen
IsSeenIf false disk seen = seen ≡ Unopened

-- these disks, the first of them at this place, are seen so, one by one
abbrev pub AreSeenFrom : List ℕ → ℕ → List (SlotDisk MemDisk) → List Returned → Type 0
AreSeenFrom returned place [] [] = Unit {0}
AreSeenFrom returned place [] (s ∷ seen) = ⊥
AreSeenFrom returned place (d ∷ disks) [] = ⊥
AreSeenFrom returned place (d ∷ disks) (s ∷ seen) = IsSeenIf (comes_back returned place) d.disk s × AreSeenFrom returned (place + 1) disks seen

abbrev pub AreSeen : List ℕ → List (SlotDisk MemDisk) → List Returned → Type 0
AreSeen returned disks seen = AreSeenFrom returned 0 disks seen

-- Of those that return the one at this place is the source, by this record: a member's with the greatest front; ties go to the earlier in
-- the chain.
pub record IsChosen (returned : List ℕ) (disks : List (SlotDisk MemDisk)) (r : Record) (place : ℕ) : Type 0 where
  pub seen : List Returned
  pub are_seen : AreSeen returned disks seen
  pub source : IsSource r.members seen place

-- the record that stands on the configuration's disk has a chain's members
pub record StandsThere (config : MemDisk) (r : Record) : Type 0 where
  pub stands : StandsOn (given_of config) r
  pub members : AreMembers r.members

-- None of those that return is a member's of the chain that is recorded.
pub record AreStrangers (returned : List ℕ) (disks : List (SlotDisk MemDisk)) (config : MemDisk) : Type 0 where
  pub recorded : Record
  pub there : StandsThere config recorded
  pub seen : List Returned
  pub are_seen : AreSeen returned disks seen
  pub none : NoneRecorded recorded.members seen

-- of so many disks none returns
abbrev pub NoneReturns : List ℕ → ℕ → Type 0
NoneReturns returned many = (place : ℕ) → place < many → comes_back returned place ≡ false

-- whether it was opened
abbrev pub is_opened : Returned → Bool
is_opened (Opened member front) = true
is_opened Unopened = false

-- the disk of the slot was only read
abbrev pub IsRead : SlotDisk MemDisk → SlotDisk MemDisk → Type 0
IsRead was now = (now.slot ≡ was.slot) × IsUnwritten was.disk now.disk

-- and its device didn't fail
abbrev pub IsReadWell : SlotDisk MemDisk → SlotDisk MemDisk → Type 0
IsReadWell was now = IsRead was now × (failures_of now.disk ≡ failures_of was.disk) × (most_failures_of now.disk ≤ most_failures_of was.disk)

-- The disk of the slot gives what it gave. What a stop leaves of it might have been left before, or is that.
pub record IsSpared (was now : SlotDisk MemDisk) : Type 0 where
  pub slot : now.slot ≡ was.slot
  pub same : given_of now.disk ≡ given_of was.disk
  pub leaves : (c : List ℕ) → may_be_left now.disk c → may_be_left was.disk c ⊎ (c ≡ given_of was.disk)

-- where the refusal is a device's, one of these disks has failed since
pub record OneHasFailed (disks back : List (SlotDisk MemDisk)) (refusal : store.Refusal) : Type 0 where
  pub place : ℕ
  pub was : SlotDisk MemDisk
  pub now : SlotDisk MemDisk
  pub there : slice_get disks place ≡ Some was
  pub came_back : slice_get back place ≡ Some now
  pub cause : IsCaused (failures_of was.disk) (failures_of now.disk) refusal

abbrev pub AreCausedBy : List (SlotDisk MemDisk) → List (SlotDisk MemDisk) → Refusal → Type 0
AreCausedBy disks back (Store refusal) = OneHasFailed disks back refusal
AreCausedBy disks back _ = Unit {0}

-- each of these that was opened was read so
abbrev pub AreOpenedWell : List (SlotDisk MemDisk) → List (SlotDisk MemDisk) → List Returned → Type 0
AreOpenedWell [] back seen = Unit {0}
AreOpenedWell (d ∷ disks) [] seen = Unit {0}
AreOpenedWell (d ∷ disks) (b ∷ back) [] = Unit {0}
AreOpenedWell (d ∷ disks) (b ∷ back) (s ∷ seen) = (is_opened s ≡ true → IsReadWell d b) × AreOpenedWell disks back seen

-- and the one at this place
abbrev pub IsWellAt : List (SlotDisk MemDisk) → List (SlotDisk MemDisk) → ℕ → Type 0
IsWellAt disks back place = (d b : SlotDisk MemDisk) → slice_get disks place ≡ Some d → slice_get back place ≡ Some b → IsReadWell d b

-- nothing else may be left of the slot's disk than what it gives
abbrev pub GivesOnly : SlotDisk MemDisk → Type 0
GivesOnly d = Only (given_of d.disk) (may_be_left d.disk)

-- the slot's disk still gives what it gave, and nothing else may be left of it
abbrev pub IsStill : SlotDisk MemDisk → SlotDisk MemDisk → Type 0
IsStill was now = (now.slot ≡ was.slot) × (given_of now.disk ≡ given_of was.disk) × GivesOnly now

-- the slot's disk holds what this cut leaves of it, and nothing is armed at it any more
pub record IsCutAnew (cut : Cut) (was now : SlotDisk MemDisk) : Type 0 where
  pub slot : now.slot ≡ was.slot
  pub is_cut : IsCut cut was.disk now.disk
  pub calm : failures_of now.disk ≡ most_failures_of now.disk

-- Of these disks the chain goes on from the source of those that return. The others were spared, and are outside.
pub record RecoversFrom {S : Type 0} (about : S → About) (keeps : S → List ℕ → Type 0) (may_leave_now : S → List ℕ → Type 0) (returned : List ℕ) (disks : List (SlotDisk MemDisk)) (config : MemDisk) (new : Managed S) : Type 0 where
  pub place : ℕ
  pub source : SlotDisk MemDisk
  pub there : slice_get disks place ≡ Some source
  pub recovers : Recovers about keeps may_leave_now source.disk config new
  pub chosen : IsChosen returned disks recovers.recorded place
  pub outside : AllZip IsSpared (remove disks place) new.outside

-- The source came back so: it means what it meant, and it wasn't written before the record of its member alone was durable.
pub record IsBack (disk config now config_back : MemDisk) : Type 0 where
  pub again : MeansStill disk now
  pub order : IsUnwritten disk now ⊎ IsRecordedAlone disk config config_back

-- A recovery was broken off behind the choice of the source. The others were only read, and the source came back, unless memory ran out once its
-- store was open.
pub record HasBrokenOff (returned : List ℕ) (disks : List (SlotDisk MemDisk)) (config : MemDisk) (refusal : Refusal) (back : List (SlotDisk MemDisk)) (config_back : MemDisk) : Type 0 where
  pub place : ℕ
  pub source : SlotDisk MemDisk
  pub there : slice_get disks place ≡ Some source
  pub recorded : Record
  pub chain : StandsThere config recorded
  pub chosen : IsChosen returned disks recorded place
  pub others : List (SlotDisk MemDisk)
  pub read : AllZip IsRead (remove disks place) others
  pub records : RecordsStill source.disk config config_back
  pub came_back : ((now : MemDisk) × (back ≡ insert others place (record { slot = source.slot; disk = now })) × IsBack source.disk config now config_back) ⊎ ((back ≡ others) × (refusal ≡ Memory))

-- the disk of a slot met its stop, and says so
pub record OneHasStopped (back : List (SlotDisk MemDisk)) (refusal : Refusal) : Type 0 where
  pub place : ℕ
  pub now : SlotDisk MemDisk
  pub there : slice_get back place ≡ Some now
  pub stopped : IsStopOf now.disk refusal

-- no two records can follow the one on the configuration's disk: its epoch is the greatest or the one before, or the number of its store is
pub record IsAtItsEnd (config : MemDisk) : Type 0 where
  pub recorded : Record
  pub number : ℕ
  pub stands : StandsAs (given_of config) recorded number
  pub last : (MAX_NUMBER ≤ recorded.epoch + 1) ⊎ (MAX_NUMBER ≤ number + 1)

-- why no source was chosen: memory ran out, or no disk returns, or none that does is the recorded chain's
abbrev pub IsNoChoice : List ℕ → List (SlotDisk MemDisk) → MemDisk → Refusal → Type 0
IsNoChoice returned disks config refusal = IsOfMemory refusal ⊎ (((refusal ≡ NoneReturned) × NoneReturns returned (length disks)) ⊎ ((refusal ≡ NotInChain) × AreStrangers returned disks config))

-- why the chain doesn't go on: for that, or since no record can follow
abbrev pub IsNoReturn : List ℕ → List (SlotDisk MemDisk) → MemDisk → Refusal → Type 0
IsNoReturn returned disks config refusal = IsNoChoice returned disks config refusal ⊎ ((refusal ≡ Config NotNext) × IsAtItsEnd config)
