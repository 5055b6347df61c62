-- What is said of a recovery: of which disk it goes on, why it doesn't, and what the disks have then.
use Rattle.std.specs.Prelude.{◌≡◌, ◌⊎◌, ℕ, true, List, [], ◌∷◌, map, Option, None, Some, Result, Ok, Err, IfSome, slice_get}
use Rattle.std.specs.List.{AllZip, remove}
use Rattle.configurations.specs.Record.{Record}
use Rattle.configurations.specs.Store as configs
use Rattle.configurations.specs.Store.{IsSettledConfig}
use Rattle.disk_model.specs.Disk.{LeavesOnly}
use Rattle.gate_journal.specs.Runs.{OnlyReads}
use Rattle.home_blocks.specs.declared.version.Version.TheVariants.{One}
use Rattle.local_store.specs.About.{About, meaning_with}
use Rattle.local_store.specs.Meaning.{Meaning, Means}
use Rattle.local_store.specs.Refusal.{IsCaused, IsOfDevice}
use Rattle.local_store.specs.declared.refusal.Refusal.{Refusal as StoreRefusal}
use Rattle.local_store.specs.declared.store.Store.{Store}
use Rattle.folder.specs.Chain.{HasRecord, alone_after, config_part}
use Rattle.folder.specs.Disks.{IsSourceOf, member_of}
use Rattle.folder.specs.Restart.{GoesOn, IsRecordedOver}
use Rattle.folder.specs.declared.refusal.Refusal.{Refusal}
use Rattle.folder.specs.declared.restarting.Opened.{Opened}
use Rattle.folder.specs.declared.restarting.Refused.{Refused}
use Rattle.comeback.specs.declared.recovering.Unrecovered.{Unrecovered}
use Rattle.comeback.specs.declared.recovering.Unrecovered.TheVariants as why

-- the disk at this place means something, of the member at this slot
pub record IsSlotAt (disks : List (List ℕ)) (place slot : ℕ) : Type 0 where
  pub bytes : List ℕ
  pub there : slice_get disks place ≡ Some bytes
  pub meaning : Meaning
  pub means : Means meaning bytes
  pub is : slot ≡ meaning.slot

-- the record has one member, at this slot
abbrev pub HasOneAt : ℕ → Record → Type 0
HasOneAt slot r = (incarnation : ℕ) × (r.members ≡ record { slot = slot; incarnation = incarnation } ∷ [])

-- a stop since the old disk leaves what it might have left before, or what means this
abbrev pub LeavesMeaning : {D : Type 0} → (D → List ℕ → Type 0) → (D → ℕ) → (D → ℕ → List ℕ → Type 0) → Meaning → D → D → Type 0
LeavesMeaning may_leave moment left_since meaning old new = LeavesOnly moment left_since old new (λ c. may_leave old c ⊎ Means meaning c)

-- ---- why no chain comes back

-- this holds of what `restart` refused, if that is why
abbrev pub IfRefused : {D : Type 0} {d : _} → Unrecovered D d → (Refused D → Type 0) → Type 0
IfRefused (why.Refused refused) P = P refused
IfRefused (why.Unmigrated refusal opened) P = Unit {0}
IfRefused why.Memory P = Unit {0}

-- this holds of the source's refusal, and of the chain that was recorded, if that is why
abbrev pub IfUnmigrated : {D : Type 0} {d : _} → Unrecovered D d → (StoreRefusal → Opened D d → Type 0) → Type 0
IfUnmigrated (why.Refused refused) P = Unit {0}
IfUnmigrated (why.Unmigrated refusal opened) P = P refusal opened
IfUnmigrated why.Memory P = Unit {0}

-- the refusal of `restart`, if it refused
abbrev pub refusal_in : {T D : Type 0} {d : _} → Result T (Unrecovered D d) → Option Refusal
refusal_in (Ok done) = None
refusal_in (Err (why.Refused refused)) = Some refused.refusal
refusal_in (Err (why.Unmigrated refusal opened)) = None
refusal_in (Err why.Memory) = None

-- The chain goes on from this store, as `restart` says, and its disk, which is of version 1, isn't brought to version 2: its device refuses, and
-- has failed since, unless it had no memory. The store is broken then, and its disk means what it meant, at any stop. The chain is recorded, and
-- the record durable; the other disks were only read.
pub record IsUnmigrated {D : Type 0} {d : _} (about : Store D d → About) (keeps : Store D d → List ℕ → Type 0) (gives : D → List ℕ) (may_leave : D → List ℕ → Type 0) (moment : D → ℕ) (left_since : D → ℕ → List ℕ → Type 0) (failures : D → ℕ) (config : D) (disks : List D) (refusal : StoreRefusal) (o : Opened D d) : Type 0 where
  pub was : Store D d
  pub goes_on : GoesOn about keeps (gives config) (map gives disks) o.place was o.«record»
  pub version : (about was).version ≡ One
  pub reads : IfSome (slice_get disks o.place) (λ disk. OnlyReads gives may_leave moment left_since disk was.disk)
  pub told : IsOfDevice refusal
  pub cause : IsCaused (failures was.disk) (failures o.store.disk) refusal
  pub broken : about o.store ≡ record (about was) { broken = true }
  pub means : LeavesOnly moment left_since was.disk o.store.disk (Means (meaning_with (about was) goes_on.volume))
  pub settled : IsSettledConfig o.configs (gives o.config) (may_leave o.config)
  pub current : o.configs.current ≡ o.«record»
  pub part : o.configs.pair.part ≡ config_part
  pub any_moment : LeavesOnly moment left_since config o.config (IsRecordedOver (may_leave config) (gives config) (map gives disks))
  pub others : AllZip (OnlyReads gives may_leave moment left_since) (remove disks o.place) o.others.items

-- The configuration's disk became another, whose record is durable: that of the source's member among these disks alone, in the next epoch.
pub record IsRecordedAlone {D : Type 0} (gives : D → List ℕ) (may_leave : D → List ℕ → Type 0) (moment : D → ℕ) (left_since : D → ℕ → List ℕ → Type 0) (config : D) (disks : List (List ℕ)) : Type 0 where
  pub disk : D
  pub store : configs.State
  pub old : Record
  pub recorded : HasRecord old (gives config)
  pub place : ℕ
  pub meaning : Meaning
  pub source : IsSourceOf old.members disks place meaning
  pub part : store.pair.part ≡ config_part
  pub next : store.current ≡ alone_after old (member_of meaning)
  pub settled : IsSettledConfig store (gives disk) (may_leave disk)
  pub any_moment : LeavesOnly moment left_since config disk (IsRecordedOver (may_leave config) (gives config) disks)
