-- What a member does with a front of the board.
use Rattle.std.specs.Prelude.{◌≡◌, ◌⊎◌, ℕ, ◌++◌, List, map, None, Some, max, false, true, slice_get, slice_set}
use Rattle.board.specs.Seats.{FoundFront}
use Rattle.flush_barrier.specs.Reply.{GivenReply}
use Rattle.local_store.specs.About.{About}
use Rattle.chain_core.specs.Node.{IsStepOrStop, Seen, may_raise}
use Rattle.chain_steps.specs.declared.message.Envelope.{Envelope}
use Rattle.chain_core.specs.Reads.{HasBrokenOff, HasOnlyRead, IsStepOver, IsStepTo}
use Rattle.chain_steps.specs.Node.{Out, last_of}
use Rattle.chain_steps.specs.Steps.{answer_front, keep, looked_front, raised as raised_step, raised_front, stop}
use Rattle.chain_steps.specs.declared.cause.Cause.TheVariants.{Memory}
use Rattle.chain_steps.specs.declared.found.Found.TheVariants.{Looked, Raised}
use Rattle.chain_model.specs.Laws.{HasSent}
use Rattle.chain.specs.Chain.{Chained}
use Rattle.chain.specs.Links.{link_at}
use Rattle.chain.specs.LoneBoard.{raised}
use Rattle.chain.specs.Member.{HasCalled, Linked}

-- The member runs, and keeps a front of this number that was looked up.
pub record HasLooked {S : Type 0} (number : ℕ) (old new : Linked S) : Type 0 where
  pub front : FoundFront
  pub runs : old.node.state.stopped ≡ None
  pub of_number : front.number ≡ number
  pub are : new ≡ record old { node = record old.node { state = keep (Looked front) old.node.state } }

-- The member runs, and keeps a front of this number that it raised.
pub record HasRaised {S : Type 0} (number : ℕ) (old new : Linked S) : Type 0 where
  pub front : FoundFront
  pub runs : old.node.state.stopped ≡ None
  pub of_number : front.number ≡ number
  pub are : new ≡ record old { node = record old.node { state = keep (Raised front) old.node.state } }

-- The member at this place, a tail that may raise, raised the committed front to its last applied write if it was below, and keeps the
-- front that is there then; nothing else changed.
pub record RaisesAt {S : Type 0} (at : ℕ) (old new : Chained S) : Type 0 where
  pub before : Linked S
  pub after : Linked S
  pub here : slice_get old.members at ≡ Some before
  pub may : may_raise before.node.state ≡ true
  pub did : HasRaised (max old.words.front (last_of before.node.state)) before after
  pub are : new ≡ record old { words = raised old.words (last_of before.node.state); members = slice_set old.members at after }

-- why a member that runs doesn't raise: it isn't a tail that may
abbrev pub MayNotRaise : {S : Type 0} → Linked S → Type 0
MayNotRaise m = may_raise m.node.state ≡ false

-- why a member that runs does nothing: it keeps no front that it raised, or none that it looked up
abbrev pub HasNoRaised : {S : Type 0} → Linked S → Type 0
HasNoRaised m = raised_front m.node.state.found ≡ None

abbrev pub HasNoLooked : {S : Type 0} → Linked S → Type 0
HasNoLooked m = looked_front m.node.state.found ≡ None

-- The member ran, and went on with the front that it looked up, and kept; or memory ran out, or its device refused a read, and it stopped.
pub record HasAnswered {S : Type 0} (premise : Type 0) (about : S → About) (failures : S → ℕ) (keeps : S → List ℕ → Type 0) (moment : S → ℕ) (left_since : S → ℕ → List ℕ → Type 0)
    (replies : List GivenReply) (old new : Linked S) : Type 0 where
  pub had : HasNoLooked old → ⊥
  pub did : HasCalled (λ old new out. (HasOnlyRead premise about failures keeps moment left_since old.store new.store
      × (IsStepOver premise (keeps old.store) new.state out (λ volume. answer_front volume old.state)
      ⊎ IsStepTo new.state out (stop Memory old.state)))
      ⊎ HasBrokenOff about failures old new out) replies old new

-- The member at the place ran, and its node took the front that it raised, and kept, as its known commit, or stopped; what it sent is on
-- its way to the one before it, and nothing else changed.
pub record HasKnown {S : Type 0} (at : ℕ) (replies : List GivenReply) (old new : Chained S) : Type 0 where
  pub before : Linked S
  pub node : Seen S
  pub out : Out
  pub here : slice_get old.members at ≡ Some before
  pub runs : before.node.state.stopped ≡ None
  pub had : HasNoRaised before → ⊥
  pub did : IsStepOrStop before.node node out (raised_step before.node.state)
  pub told : out.replies ≡ replies
  pub sent : HasSent before.node.state.place.slot out.messages (link_at old.links) (link_at new.links)
  pub are : new ≡ record old { members = slice_set old.members at (record before { node = node }); links = new.links }

-- The member ran, and its node took the front that it raised, and kept, as its known commit, or stopped; what it sent goes behind what is
-- on a link, and nothing else of it changed.
pub record KnowsTo {S : Type 0} (replies : List GivenReply) (to then : List Envelope) (old new : Linked S) : Type 0 where
  pub out : Out
  pub runs : old.node.state.stopped ≡ None
  pub had : HasNoRaised old → ⊥
  pub did : IsStepOrStop old.node new.node out (raised_step old.node.state)
  pub told : out.replies ≡ replies
  pub behind : then ≡ to ++ map (λ sent. sent.envelope) out.messages
  pub are : new ≡ record old { node = new.node }
