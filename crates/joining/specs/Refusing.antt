-- Why a disk isn't rebuilt, and what that leaves.
use Rattle.std.specs.Prelude.{◌≡◌, ◌⊎◌, ℕ, ◌*◌, ◌≤◌, true, false, List, None, Option, Some, length}
use Rattle.configurations.specs.Record.{Record}
use Rattle.configurations.specs.Refusal as configs
use Rattle.configurations.specs.Refusal.{IsOfRecording}
use Rattle.configurations.specs.Store.{IsNext}
use Rattle.configurations.specs.declared.refusal.Refusal.{Refusal as ConfigRefusal}
use Rattle.configurations.specs.declared.refusal.Refusal.TheVariants as config_refusals
use Rattle.gate_journal.specs.Receipt.{Receipt}
use Rattle.gate_journal.specs.declared.batch.TheConstants.{MAX_NUMBER}
use Rattle.local_store.specs.About.{About}
use Rattle.local_store.specs.Refusal.{IsCaused, IsOfFormatting, IsOfTicking}
use Rattle.local_store.specs.declared.refusal.Refusal.{Refusal as StoreRefusal}
use Rattle.chain.specs.Chain.{Chained, RestsAt}
use Rattle.manager.specs.Manager.{is_held, joining_of, next_of, why_no_joining}
use Rattle.manager.specs.declared.order.Order.TheVariants.{CountIn, Hold, Idle, Record as RecordOrder}
use Rattle.manager.specs.declared.refusal.Refusal.{Refusal as ManagerRefusal}
use Rattle.manager.specs.declared.refusal.Refusal.TheVariants as managers
use Rattle.world.specs.Joining.{BeginsNoJoin, CountsNobody, HasNoTail, HoldsNobody, IsTailAt}
use Rattle.world.specs.Management.{Managing, noted}
use Rattle.world.specs.World as worlds
use Rattle.joining.specs.Copying.{LeadsOn, Seen}
use Rattle.joining.specs.Giving.{RefusesFinish, RefusesOpening}
use Rattle.joining.specs.Rebuilding.{AllKeep, IsRebuilt}
use Rattle.joining.specs.declared.rebuilding.NotRebuilt.{NotRebuilt}
use Rattle.joining.specs.declared.rebuilding.NotRebuilt.TheVariants.{Config, Disk, Manager, Memory, OutOfOrder, TailStopped}
use Rattle.joining.specs.declared.refusal.NotGiven.{NotGiven}
use Rattle.joining.specs.declared.refusal.NotGiven.TheVariants.{Refused, Stopped}

-- ---- the manager

-- why no joining is begun: memory ran out where nothing else speaks against it, or just what the manager says
abbrev pub IsWhy : Option ManagerRefusal → ManagerRefusal → Type 0
IsWhy why managers.Memory = why ≡ None
IsWhy why refusal = why ≡ Some refusal

-- the manager refuses to begin, and noted who has stopped
pub record IsRefusedJoining {S C : Type 0} (slot : ℕ) (refusal : ManagerRefusal) (old new : Managing C) (c : Chained S) : Type 0 where
  pub why : IsWhy (why_no_joining slot (noted c old.manager)) refusal
  pub only_noted : new ≡ record old { manager = noted c old.manager }

-- the recorded epoch is the greatest, and nothing changed
pub record IsAtLastEpoch {S C : Type 0} (refusal : ManagerRefusal) (old new : Managing C) (c : Chained S) : Type 0 where
  pub is : refusal ≡ managers.NotNext
  pub last : c.recorded.epoch ≡ MAX_NUMBER
  pub same : new ≡ old

-- the joining was begun, and no order comes: the tail has stopped, by what the manager noted
pub record IsHeldUp {S C : Type 0} (slot : ℕ) (old new : Managing C) (c : Chained S) : Type 0 where
  pub begun : new ≡ record old { manager = joining_of slot (noted c old.manager) }
  pub held : is_held new.manager ≡ true

-- ---- the tail and the disk

-- nobody stands as the recorded chain's tail, or who stands as it has stopped
abbrev pub HasTailStopped : {S : Type 0} → Chained S → Type 0
HasTailStopped c = HasNoTail c ⊎ ((at : ℕ) × IsTailAt c at × RestsAt at c c)

-- why not all is given: the tail has stopped, or the disk refused a block
abbrev pub RefusesFilling : {S D : Type 0} → (D → ℕ) → NotGiven → Seen D → Seen D → Chained S → Type 0
RefusesFilling failures (Stopped told) old new c = HasTailStopped c
RefusesFilling failures (Refused refusal) old new c = IsOfTicking refusal × LeadsOn (λ was now. IsCaused (failures was) (failures now) refusal) old new

-- what a disk may refuse that is installed: to begin, a block, the end, or to be opened
abbrev pub IsOfInstalling : StoreRefusal → Type 0
IsOfInstalling refusal = IsOfFormatting refusal ⊎ (IsOfTicking refusal ⊎ RefusesFinish false refusal)

-- The disk that was to be rebuilt refused. Where it was to become a copy of what all members keep, memory ran out, its device refused, or it
-- is of version 1.
pub record IsRefusedDisk {S D : Type 0} (premise : Type 0) (keeps : S → List ℕ → Type 0) (gives : D → List ℕ) (failures : D → ℕ) (c : Chained S) (disk given : D) (refusal : StoreRefusal) : Type 0 where
  pub told : IsOfInstalling refusal
  pub cause : IsCaused (failures disk) (failures given) refusal
  pub opens : premise → (volume : List ℕ) → length volume ≡ 4096 * c.geometry.blocks → AllKeep keeps volume c → RefusesOpening refusal (gives given)

-- the manager's next order is to hold, and the tail doesn't
pub record IsNotHeld {S C : Type 0} (slot : ℕ) (new : Managing C) (after : worlds.Seen S) : Type 0 where
  pub order : next_of new.manager ≡ Hold slot
  pub nobody : HoldsNobody new after

-- ---- the record

-- the disk of this store, of the slot, is counted and joins, and the next order is to write the record with it
pub record IsCounted {S C : Type 0} (about : S → About) (slot : ℕ) (store : S) (new : Managing C) (after : worlds.Seen S) : Type 0 where
  pub order : next_of new.manager ≡ RecordOrder
  pub of_slot : (about store).slot ≡ slot
  pub joins : after.joiner ≡ Some store

-- the next order is to count the slot, and the disk of this store isn't counted
pub record IsNotCounted {S C : Type 0} (about : S → About) (slot : ℕ) (store : S) (receipt : Receipt) (new : Managing C) (after : worlds.Seen S) : Type 0 where
  pub order : next_of new.manager ≡ CountIn slot
  pub nobody : CountsNobody about store receipt new after

-- The configuration's disk refused the record: its device did, or memory ran out, or a device call failed before, or the record isn't the next
-- one for it.
pub record IsRefusedRecord {S C : Type 0} (about : S → About) (failures : C → ℕ) (slot : ℕ) (store : S) (old new : Managing C) (after : worlds.Seen S) (refusal : ConfigRefusal) : Type 0 where
  pub counted : IsCounted about slot store new after
  pub told : IsOfRecording refusal
  pub later : failures old.disk ≤ failures new.disk
  pub cause : configs.IsCaused (failures old.disk) (failures new.disk) refusal
  pub broken : refusal ≡ config_refusals.Broken → old.config.pair.broken ≡ true
  pub not_next : refusal ≡ config_refusals.NotNext → (next : Record) → after.chain.writing ≡ Some next → ¬ IsNext old.config next.epoch

-- ---- all of them

-- Why a disk has no copy of what the tail has: the tail has stopped, the disk refuses, or the front isn't held.
abbrev pub RefusesCopying : {S C D : Type 0} → (premise : Type 0) → (S → List ℕ → Type 0) → (D → List ℕ) → (D → ℕ) → (slot : ℕ) → (disk : D) → Managing C → worlds.Seen S → worlds.Seen S → NotRebuilt D → Type 0
RefusesCopying premise keeps gives failures slot disk new world after (Disk refusal given) = IsRefusedDisk premise keeps gives failures world.chain disk given refusal
RefusesCopying premise keeps gives failures slot disk new world after TailStopped = HasTailStopped after.chain
RefusesCopying premise keeps gives failures slot disk new world after (OutOfOrder (Hold at)) = (at ≡ slot) × IsNotHeld slot new after
RefusesCopying premise keeps gives failures slot disk new world after _ = ⊥

-- Why the disk of this store, once it is whole, isn't a member's: it isn't counted, the record with it may not come next, memory runs out, or
-- the configuration's disk refuses it.
abbrev pub RefusesEntering : {S C D : Type 0} → (S → About) → (C → ℕ) → (slot : ℕ) → S → Receipt → Managing C → Managing C → worlds.Seen S → NotRebuilt D → Type 0
RefusesEntering about failures slot store receipt old new after (OutOfOrder (CountIn at)) = (at ≡ slot) × IsNotCounted about slot store receipt new after
RefusesEntering about failures slot store receipt old new after (OutOfOrder RecordOrder) = IsCounted about slot store new after × BeginsNoJoin about new after
RefusesEntering about failures slot store receipt old new after Memory = IsCounted about slot store new after
RefusesEntering about failures slot store receipt old new after (Config refusal) = IsRefusedRecord about failures slot store old new after refusal
RefusesEntering about failures slot store receipt old new after _ = ⊥

-- only where the configuration's disk refuses, more of the management changes than the manager
abbrev pub LeavesConfig : {C D : Type 0} → NotRebuilt D → Managing C → Managing C → Type 0
LeavesConfig (Config refusal) old new = Unit {0}
LeavesConfig _ old new = new ≡ record old { manager = new.manager }

module _ {S C D : Type 0} (premise : Type 0) (about : S → About) (keeps : S → List ℕ → Type 0) (gives : D → List ℕ) (failures : D → ℕ) (config_failures : C → ℕ) where
  -- this is so of the store of the disk that was rebuilt, and of its receipt
  pub record OfRebuilt (slot : ℕ) (world : worlds.Seen S) (Is : S → Receipt → Type 0) : Type 0 where
    pub store : S
    pub receipt : Receipt
    pub rebuilt : premise → (volume : List ℕ) → length volume ≡ 4096 * world.chain.geometry.blocks → AllKeep keeps volume world.chain → IsRebuilt about slot world.chain store receipt
    pub is : Is store receipt

  -- Why a disk isn't rebuilt, by each of the refusals.
  abbrev pub RefusesRebuilding : (slot : ℕ) → (disk : D) → Managing C → Managing C → worlds.Seen S → worlds.Seen S → NotRebuilt D → Type 0
  RefusesRebuilding slot disk old new world after (Manager refusal given) =
      (given ≡ disk) × ((after ≡ world) × (IsAtLastEpoch refusal old new world.chain ⊎ IsRefusedJoining slot refusal old new world.chain))
  RefusesRebuilding slot disk old new world after (Disk refusal given) = IsRefusedDisk premise keeps gives failures world.chain disk given refusal
  RefusesRebuilding slot disk old new world after TailStopped = HasTailStopped after.chain
  RefusesRebuilding slot disk old new world after (Config refusal) = OfRebuilt slot world (λ store receipt. IsRefusedRecord about config_failures slot store old new after refusal)
  RefusesRebuilding slot disk old new world after Memory = OfRebuilt slot world (λ store receipt. IsCounted about slot store new after)
  RefusesRebuilding slot disk old new world after (OutOfOrder Idle) = IsHeldUp slot old new world.chain × (after ≡ world)
  RefusesRebuilding slot disk old new world after (OutOfOrder (Hold at)) = (at ≡ slot) × IsNotHeld slot new after
  RefusesRebuilding slot disk old new world after (OutOfOrder (CountIn at)) = (at ≡ slot) × OfRebuilt slot world (λ store receipt. IsNotCounted about slot store receipt new after)
  RefusesRebuilding slot disk old new world after (OutOfOrder RecordOrder) = OfRebuilt slot world (λ store receipt. IsCounted about slot store new after × BeginsNoJoin about new after)
  RefusesRebuilding slot disk old new world after _ = ⊥
