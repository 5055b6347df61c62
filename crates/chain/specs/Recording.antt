-- What becomes of a chain when its record changes.
use Rattle.std.specs.Prelude.{◌≡◌, ◌≢◌, ◌⊎◌, ℕ, suc, Some, None, List, ◌∷◌, ◌++◌, All, map, slice_get, slice_set}
use Rattle.std.specs.Option.{unwrap_or}
use Rattle.configurations.specs.Record.{Record}
use Rattle.flush_barrier.specs.Reply.{GivenReply}
use Rattle.configurations.specs.declared.member.Member as recorded
use Rattle.chain_steps.specs.Node.{Refused, Stepped, Taken, epoch_of}
use Rattle.chain_steps.specs.Place.{incarnation_in, successor_of}
use Rattle.chain_steps.specs.Steps.{stop, told}
use Rattle.chain_steps.specs.declared.cause.Cause.TheVariants.{Memory}
use Rattle.chain_steps.specs.declared.message.Envelope.{Envelope}
use Rattle.chain_core.specs.Node.{Seen}
use Rattle.chain_core.specs.Refusal.{number_of}
use Rattle.chain_core.specs.declared.refusal.Refusal.{Refusal}
use Rattle.chain_model.specs.Laws.{HasSent}
use Rattle.chain.specs.Chain.{Chained}
use Rattle.chain.specs.Links.{link_at}
use Rattle.chain.specs.LoneBoard.{counted_out}
use Rattle.chain.specs.Member.{Linked}

-- ---- the record

-- each member at the slot has stopped
abbrev pub HasStoppedThere : {S : Type 0} → ℕ → List (Linked S) → Type 0
HasStoppedThere slot members = All (λ m. m.node.state.place.slot ≡ slot → m.node.state.stopped ≢ None) members

-- the next record: without one member, which has stopped
pub record IsWithoutOne {S : Type 0} (old : Chained S) (next : Record) : Type 0 where
  pub before : List recorded.Member
  pub removed : recorded.Member
  pub behind : List recorded.Member
  pub were : old.recorded.members ≡ before ++ removed ∷ behind
  pub are : next.members ≡ before ++ behind
  pub stopped : HasStoppedThere removed.slot old.members

-- or of the same members; and its epoch is the next one
pub record IsNextOf {S : Type 0} (old : Chained S) (next : Record) : Type 0 where
  pub epoch : next.epoch ≡ suc old.recorded.epoch
  pub members : IsWithoutOne old next ⊎ (next.members ≡ old.recorded.members)

-- it may be written now, since no other one is
abbrev pub MayBegin : {S : Type 0} → Chained S → Record → Type 0
MayBegin c next = IsNextOf c next × (c.writing ≡ None)

-- all members that run were told a chain of the recorded chain's epoch
abbrev pub AllTold : {S : Type 0} → Chained S → Type 0
AllTold c = All (λ m. m.node.state.stopped ≡ None → epoch_of m.node.state ≡ c.recorded.epoch) c.members

-- what was being written may be recorded: it may come next, and all members that run were told the one before it
pub record MayEnd {S : Type 0} (c : Chained S) : Type 0 where
  pub next : Record
  pub begun : c.writing ≡ Some next
  pub follows : IsNextOf c next
  pub told : AllTold c

-- nobody is recorded at the slot, or in a record that is being written
abbrev pub IsLeftOut : {S : Type 0} → Chained S → ℕ → Type 0
IsLeftOut c slot = (incarnation_in c.recorded slot ≡ None) × (c.writing ≡ None)

-- the next record is being written
abbrev pub HasBegunRecord : {S : Type 0} → Record → Chained S → Chained S → Type 0
HasBegunRecord next old new = new ≡ record old { writing = Some next }

-- the record that was being written is the recorded one
pub record HasEndedRecord {S : Type 0} (old new : Chained S) : Type 0 where
  pub next : Record
  pub begun : old.writing ≡ Some next
  pub are : new ≡ record old { recorded = next; before = old.recorded; writing = None }

-- the board counts the slot no longer
abbrev pub HasCountedOut : {S : Type 0} → ℕ → Chained S → Chained S → Type 0
HasCountedOut slot old new = new ≡ record old { words = counted_out old.words slot }

-- ---- whom it tells

-- A member is told the record by this step, and what that sends goes behind what is on a link; or memory ran out, and it stopped.
pub record IsToldTo {S : Type 0} (chain : Record) (old new : Seen S) (to then : List Envelope) (replies : List GivenReply) : Type 0 where
  pub stepped : Stepped
  pub taken : told chain old.state ≡ Taken stepped
  pub are : new ≡ record { store = old.store; state = stepped.node }
  pub behind : then ≡ to ++ map (λ message. message.envelope) stepped.out.messages
  pub told_so : replies ≡ stepped.out.replies

pub record HasRunOut {S : Type 0} (old new : Seen S) (to then : List Envelope) (replies : List GivenReply) : Type 0 where
  pub ran : old.state.stopped ≡ None
  pub are : new ≡ record { store = old.store; state = (stop Memory old.state).node }
  pub stays : then ≡ to
  pub told_so : replies ≡ (stop Memory old.state).out.replies

-- whom the member at the slot tells in this chain, or itself
abbrev pub next_in : Record → ℕ → ℕ
next_in chain slot = unwrap_or (successor_of (record { slot = slot; chain = chain })) slot

-- The member at the place was told the recorded chain, and sent what that step sends.
pub record IsToldAt {S : Type 0} (at : ℕ) (old new : Chained S) (replies : List GivenReply) : Type 0 where
  pub before : Linked S
  pub stepped : Stepped
  pub here : slice_get old.members at ≡ Some before
  pub taken : told old.recorded before.node.state ≡ Taken stepped
  pub told_so : replies ≡ stepped.out.replies
  pub sent : HasSent before.node.state.place.slot stepped.out.messages (link_at old.links) (link_at new.links)
  pub are : new ≡ record old { members = slice_set old.members at (record before { node = record { store = before.node.store; state = stepped.node } }); links = new.links }

-- Memory ran out, and the member at the place stopped.
pub record HaltsAt {S : Type 0} (at : ℕ) (old new : Chained S) (replies : List GivenReply) : Type 0 where
  pub before : Linked S
  pub here : slice_get old.members at ≡ Some before
  pub ran : before.node.state.stopped ≡ None
  pub told_so : replies ≡ (stop Memory before.node.state).out.replies
  pub are : new ≡ record old { members = slice_set old.members at (record before { node = record { store = before.node.store; state = (stop Memory before.node.state).node } }) }

-- The member at the place isn't told the recorded chain: it refuses so, and nothing changed.
pub record IsUntoldAt {S : Type 0} (at : ℕ) (old new : Chained S) (refusal : Refusal) : Type 0 where
  pub member : Linked S
  pub here : slice_get old.members at ≡ Some member
  pub refused : told old.recorded member.node.state ≡ Refused (number_of refusal)
  pub same : new ≡ old
