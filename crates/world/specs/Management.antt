-- The manager of a world, and what its orders do.
use Rattle.std.specs.Prelude.{◌≡◌, ◌⊎◌, ℕ, ◌+◌, ◌≤◌, Bool, ◌&&◌, ◌||◌, true, false, if◌then◌else◌, Option, None, Some, List, [], fold, slice_get}
use Rattle.configurations.specs.Record.{Record}
use Rattle.configurations.specs.Store as configs
use Rattle.configurations.specs.Store.{HoldsRecord, recorded}
use Rattle.manager.specs.Manager as managers
use Rattle.manager.specs.Manager.{begun_of, done_of, has_slot, is_joining, next_of, record_of, stopped_at}
use Rattle.manager.specs.Orders.{is_record}
use Rattle.manager.specs.declared.order.Order.TheVariants.{CountOut, Tell}
use Rattle.chain_core.specs.declared.refusal.Refusal.{Refusal}
use Rattle.chain_steps.specs.Node.{is_stopped}
use Rattle.chain_model.specs.View.{is_in}
use Rattle.chain.specs.Chain.{Chained}
use Rattle.chain.specs.Member.{Linked}
use Rattle.chain.specs.Recording.{HaltsAt, HasBegunRecord, HasCountedOut, HasEndedRecord, IsLeftOut, IsToldAt, IsUntoldAt, MayBegin, MayEnd}
use Rattle.world.specs.Telling.{Answers, Moves, is_whole, outputs_of}
use Rattle.world.specs.World.{Seen}
use Rattle.world.specs.declared.told.Told.{Told}

-- the manager, and the disk of its configuration with the record that stands on it
pub record Managing (D : Type 0) : Type 0 where
  pub manager : managers.State
  pub config : configs.State
  pub disk : D

-- the record has its place on the disk
abbrev pub IsOnDisk : {D : Type 0} → (D → ℕ) → Managing D → Type 0
IsOnDisk size m = m.config.pair.part.start + m.config.pair.part.len ≤ size m.disk

-- ---- who has stopped

-- a slot of the manager's chain, or the one that is being joined
abbrev pub knows : managers.State → ℕ → Bool
knows st slot = is_joining slot st.joining || has_slot slot st.chain.members

-- the member is in the recorded chain, and has stopped
abbrev pub has_stopped_in : {S : Type 0} → Record → Linked S → Bool
has_stopped_in recorded m = is_in recorded m.node.state.place.slot m.node.state.incarnation && is_stopped m.node.state

-- the manager once it knows whether this member has stopped
abbrev pub noted_one : {S : Type 0} → Record → managers.State → Linked S → managers.State
noted_one recorded st m = if has_stopped_in recorded m && knows st m.node.state.place.slot then stopped_at m.node.state.place.slot st else st

-- once it knows who has stopped of a chain
abbrev pub noted : {S : Type 0} → Chained S → managers.State → managers.State
noted c st = fold (noted_one c.recorded) st c.members

-- ---- the record

-- The next order is to write a record, which may come next: it is being written.
pub record HasBegun {S D : Type 0} (old new : Managing D) (world after : Seen S) : Type 0 where
  pub next : Record
  pub due : record_of old.manager ≡ Some next
  pub moves : Moves world after (λ one other. MayBegin one next × HasBegunRecord next one other)
  pub are : new ≡ record old { manager = begun_of old.manager }

-- no record is the next order, or it may not come next
abbrev pub BeginsNone : {S D : Type 0} → Managing D → Seen S → Type 0
BeginsNone old world = (record_of old.manager ≡ None) ⊎ ((next : Record) × (record_of old.manager ≡ Some next) × (MayBegin world.chain next → ⊥))

-- the bytes hold the record that is being written
abbrev pub HoldsWritten : Option Record → List ℕ → Type 0
HoldsWritten writing bytes = (next : Record) × (writing ≡ Some next) × HoldsRecord next bytes

-- the bytes hold the recorded chain's record, or the one that is being written
abbrev pub HoldsOne : {S : Type 0} → Chained S → List ℕ → Type 0
HoldsOne c bytes = HoldsRecord c.recorded bytes ⊎ HoldsWritten c.writing bytes

-- The record that is being written stands on the disk, and is the recorded one.
pub record HasEnded {S D : Type 0} (old new : Managing D) (world after : Seen S) : Type 0 where
  pub next : Record
  pub due : is_record (next_of old.manager) ≡ true
  pub written : world.chain.writing ≡ Some next
  pub moves : Moves world after (λ one other. MayEnd one × HasEndedRecord one other)
  pub manager : new.manager ≡ done_of old.manager
  pub config : new.config ≡ recorded old.config next

-- what is being written may be recorded, and nobody joins
abbrev pub MayEndAlone : {S : Type 0} → Seen S → Type 0
MayEndAlone world = MayEnd world.chain × (world.joiner ≡ None)

-- no record is the next order, or what is being written, if anything, may not be recorded
abbrev pub EndsNone : {S D : Type 0} → Managing D → Seen S → Type 0
EndsNone old world = (is_record (next_of old.manager) ≡ false) ⊎ (MayEndAlone world → ⊥)

-- ---- the orders behind it

-- A slot is counted no longer.
pub record CountsOut {S D : Type 0} (old new : Managing D) (world after : Seen S) : Type 0 where
  pub slot : ℕ
  pub due : next_of old.manager ≡ CountOut slot
  pub moves : Moves world after (λ one other. IsLeftOut one slot × HasCountedOut slot one other)
  pub are : new ≡ record old { manager = done_of old.manager }

-- nobody is recorded at the slot, or in a record that is being written, and nobody joins
abbrev pub IsLeftOutAlone : {S : Type 0} → Seen S → ℕ → Type 0
IsLeftOutAlone world slot = IsLeftOut world.chain slot × (world.joiner ≡ None)

-- no slot is to be counted out, or it isn't left out
abbrev pub CountsNone : {S D : Type 0} → Managing D → Seen S → Type 0
CountsNone old world = ((slot : ℕ) → next_of old.manager ≡ CountOut slot → IsLeftOutAlone world slot → ⊥)

-- nobody of the recorded chain is at the slot
abbrev pub HasNobody : {S : Type 0} → Chained S → ℕ → Type 0
HasNobody {S} c slot = (at : ℕ) (m : Linked S) → slice_get c.members at ≡ Some m → m.node.state.place.slot ≡ slot → is_in c.recorded slot m.node.state.incarnation ≡ true → ⊥

-- the recorded member at a slot stands at this place
pub record IsMemberAt {S : Type 0} (c : Chained S) (slot at : ℕ) : Type 0 where
  pub member : Linked S
  pub here : slice_get c.members at ≡ Some member
  pub slot_is : member.node.state.place.slot ≡ slot
  pub recorded : is_in c.recorded slot member.node.state.incarnation ≡ true

-- The recorded member at the slot was told the record; or it couldn't be, or there is none: then nothing changed, and nobody was told anything.
abbrev pub TellsSlot : {S : Type 0} → ℕ → Told → Seen S → Seen S → Type 0
TellsSlot slot told old new =
    ((at : ℕ) × IsMemberAt old.chain slot at × Answers told old new (λ replies one other. IsToldAt at one other replies ⊎ HaltsAt at one other replies))
    ⊎ (((at : ℕ) × (refusal : Refusal) × IsMemberAt old.chain slot at × Moves old new (λ one other. IsUntoldAt at one other refusal) × (is_whole told ≡ true) × (outputs_of told ≡ []))
    ⊎ (HasNobody old.chain slot × (new ≡ old) × (is_whole told ≡ true) × (outputs_of told ≡ [])))

pub record TellsNext {S D : Type 0} (told : Told) (old new : Managing D) (world after : Seen S) : Type 0 where
  pub slot : ℕ
  pub due : next_of old.manager ≡ Tell slot
  pub tells : TellsSlot slot told world after
  pub are : new ≡ record old { manager = done_of old.manager }

-- nobody is to be told
abbrev pub TellsNobody : {D : Type 0} → Managing D → Type 0
TellsNobody old = (slot : ℕ) → next_of old.manager ≡ Tell slot → ⊥
