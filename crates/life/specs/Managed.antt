-- A world with its manager, the disk on which the chain's record stands, and the one on its way into the chain.
use Rattle.std.specs.Prelude.{◌≡◌, ◌⊎◌, ℕ, suc, ◌≤◌, true, false, None, Some, All, List, [], replicate, slice_get}
use Rattle.configurations.specs.Record.{Record}
use Rattle.configurations.specs.Store.{HoldsNumbered, HoldsRecord, IsSettledConfig}
use Rattle.disk_model.specs.Memory.{given_of, may_be_left}
use Rattle.disk_model.specs.Part.{inside}
use Rattle.disk_model.specs.declared.memory.MemDisk.{MemDisk}
use Rattle.disk_model.specs.declared.part.Part.{Part}
use Rattle.gate_journal.specs.declared.batch.TheConstants.{MAX_NUMBER}
use Rattle.home_blocks.specs.Places.{superblock_fits}
use Rattle.local_store.specs.Meaning.{Meaning, Means}
use Rattle.candidate.specs.declared.candidate.Candidate.{Candidate}
use Rattle.candidate.specs.declared.candidate.Candidate.TheVariants.{Counted, Nobody}
use Rattle.chain.specs.Joining.{IsWithOne}
use Rattle.local_store.specs.About.{About}
use Rattle.std.specs.Option.{ForSome}
use Rattle.manager.specs.Manager as managers
use Rattle.manager.specs.Orders.{is_record}
use Rattle.chain.specs.Chain.{Chained}
use Rattle.world.specs.Management.{HoldsOne, Managing}
use Rattle.world.specs.World.{Seen}
use Rattle.life.specs.declared.managed.SlotDisk.{SlotDisk}

-- a world, its manager with the configuration's disk, the disk on its way into the chain, and the disks outside of it
pub record ManagedOver (S D : Type 0) : Type 0 where
  pub world : Seen S
  pub management : Managing D
  pub candidate : Candidate S D
  pub outside : List (SlotDisk D)

-- where this is in memory
abbrev pub Managed : Type 0 → Type 0
Managed S = ManagedOver S MemDisk

-- ---- the configuration's disk

-- the part of it in which the record stands
abbrev pub config_part : Part
config_part = record { start = 0; len = 8192; fits = superblock_fits }

-- the record stands on the disk of these bytes
abbrev pub StandsOn : List ℕ → Record → Type 0
StandsOn bytes r = HoldsRecord r (inside config_part bytes)

-- and this is the number of the store that put it there
abbrev pub StandsAs : List ℕ → Record → ℕ → Type 0
StandsAs bytes r number = HoldsNumbered r number (inside config_part bytes)

-- a stop may leave this record: the recorded chain's, or the one that is being written
abbrev pub MayStand : {S : Type 0} → Chained S → Record → Type 0
MayStand c r = (r ≡ c.recorded) ⊎ (c.writing ≡ Some r)

-- the record has the member of this slot and incarnation
abbrev pub IsAmong : Record → ℕ → ℕ → Type 0
IsAmong r slot incarnation = (seat : ℕ) × (slice_get r.members seat ≡ Some (record { slot = slot; incarnation = incarnation }))

-- Whatever a stop may leave of a disk outside, it isn't that of a member of a record that a stop may leave.
abbrev pub NoImpostor : {S : Type 0} → Managed S → Type 0
NoImpostor w = All (λ d. (bytes : List ℕ) → may_be_left d.disk bytes → (meaning : Meaning) → Means meaning bytes → (r : Record) → MayStand w.world.chain r → IsAmong r meaning.slot meaning.incarnation → ⊥) w.outside

-- Each disk is of an incarnation that was recorded: a member's, and, whatever a stop may leave of it, one outside. So is each recorded member.
pub record AreDated {S : Type 0} (about : S → About) (w : Managed S) : Type 0 where
  pub recorded : All (λ m. m.incarnation ≤ w.world.chain.recorded.epoch) w.world.chain.recorded.members
  pub members : All (λ m. (about m.node.store).incarnation ≤ w.world.chain.recorded.epoch) w.world.chain.members
  pub outside : All (λ d. (bytes : List ℕ) → may_be_left d.disk bytes → (meaning : Meaning) → Means meaning bytes → meaning.incarnation ≤ w.world.chain.recorded.epoch) w.outside

-- no record can follow the one on the disk of these bytes: its epoch is the greatest, or the number of its store is
pub record IsLast (bytes : List ℕ) : Type 0 where
  pub found : Record
  pub number : ℕ
  pub stands : StandsAs bytes found number
  pub last : (MAX_NUMBER ≤ found.epoch) ⊎ (MAX_NUMBER ≤ number)

-- ---- the manager

-- what a manager knows of a chain with this record, of which no member has stopped, with no change under way
abbrev pub at_rest : Record → managers.State
at_rest r = record { chain = r; stopped = replicate 8 false; joining = None; coming = r.members; begun = false; left = [] }

-- No change is under way, no disk is on its way into the chain, and whatever a stop leaves of the configuration's disk has the recorded
-- chain's record.
pub record IsAtRest {S : Type 0} (w : Managed S) : Type 0 where
  pub manager : w.management.manager ≡ at_rest w.world.chain.recorded
  pub idle : w.world.chain.writing ≡ None
  pub nobody : w.candidate ≡ Nobody
  pub alone : w.world.joiner ≡ None
  pub part : w.management.config.pair.part ≡ config_part
  pub current : w.management.config.current ≡ w.world.chain.recorded
  pub settled : IsSettledConfig w.management.config (given_of w.management.disk) (may_be_left w.management.disk)

-- A record is being written: it is the one that the manager's next order means, and the manager knows that its writing has begun.
abbrev pub IsBeingWritten : {S : Type 0} → Managed S → Type 0
IsBeingWritten w =
    (w.world.chain.writing ≡ Some (managers.coming_record w.management.manager)) × (w.management.manager.begun ≡ true) × (is_record (managers.next_of w.management.manager) ≡ true)

-- The manager's record is the recorded chain's; and where a record is being written, it is the one that the manager's next order means.
pub record AreInStep {S : Type 0} (w : Managed S) : Type 0 where
  pub chain : w.management.manager.chain ≡ w.world.chain.recorded
  pub writing : (w.world.chain.writing ≡ None) ⊎ IsBeingWritten w

-- This store joins: it is that of the disk on its way, which was counted; its incarnation is the next epoch; and the record that is being
-- written, if one is, has it behind the recorded members.
pub record IsNewcomer {S : Type 0} (about : S → About) (w : Managed S) (store : S) : Type 0 where
  pub counted : w.candidate ≡ Counted
  pub incarnation : (about store).incarnation ≡ suc w.world.chain.recorded.epoch
  pub writing : (next : Record) → w.world.chain.writing ≡ Some next → IsWithOne about store w.world.chain next

-- whoever joins is a newcomer
abbrev pub JoinsAsNew : {S : Type 0} → (S → About) → Managed S → Type 0
JoinsAsNew about w = ForSome w.world.joiner (IsNewcomer about w)

-- Whatever changes, and wherever the device fails meanwhile: a stop leaves the recorded chain's record, or the one that is being written.
-- Once a device call failed nothing more is written.
pub record IsConfigured {S : Type 0} (w : Managed S) : Type 0 where
  pub part : w.management.config.pair.part ≡ config_part
  pub left : (bytes : List ℕ) → may_be_left w.management.disk bytes → HoldsOne w.world.chain (inside config_part bytes)
  pub goes_on : ((w.management.config.pair.broken ≡ true) × (w.management.config.current ≡ w.world.chain.recorded))
      ⊎ (MayStand w.world.chain w.management.config.current × IsSettledConfig w.management.config (given_of w.management.disk) (may_be_left w.management.disk))
