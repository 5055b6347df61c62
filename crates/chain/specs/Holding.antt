-- What the tail of the recorded chain does for a joiner: it holds the front, and gives blocks of the volume.
use Rattle.std.specs.Prelude.{◌≡◌, ◌⊎◌, ℕ, ◌==◌, ◌&&◌, ◌++◌, Bool, Err, List, None, Ok, Result, Some, [], false, length, map, slice_get, slice_set, true}
use Rattle.board.specs.Seats.{FoundFront}
use Rattle.configurations.specs.Record.{Record}
use Rattle.flush_barrier.specs.Reply.{GivenReply}
use Rattle.local_store.specs.About.{About}
use Rattle.chain_core.specs.Node.{IsStepOrStop, Seen}
use Rattle.chain_core.specs.Reads.{HasBrokenOff, HasOnlyRead, IsStepTo}
use Rattle.chain_steps.specs.Node.{NodeState, Out, epoch_of}
use Rattle.chain_steps.specs.Place.{is_tail}
use Rattle.chain_steps.specs.Steps.{held_block, hold, keep, stop}
use Rattle.chain_steps.specs.declared.cause.Cause.TheVariants.{Memory}
use Rattle.chain_steps.specs.declared.found.Found.TheVariants.{Looked}
use Rattle.chain_steps.specs.declared.message.Envelope.{Envelope}
use Rattle.chain_model.specs.Laws.{HasSent}
use Rattle.chain.specs.Chain.{Chained}
use Rattle.chain.specs.Links.{link_at}
use Rattle.chain.specs.Member.{Linked}

-- ---- the front is held

-- the member was told the recorded chain, and is its tail
abbrev pub may_hold : Record → NodeState → Bool
may_hold recorded node = (epoch_of node == recorded.epoch) && is_tail node.place

-- why a member that runs doesn't hold: another is the tail of the recorded chain, or it wasn't told that chain
abbrev pub MayNotHold : {S : Type 0} → Record → Linked S → Type 0
MayNotHold recorded m = may_hold recorded m.node.state ≡ false

-- The member at the place, the tail of the recorded chain, ran, looked the committed front up, and its node held it for a joiner, or
-- stopped; what it sent is on its way to the one before it, and nothing else changed.
pub record HoldsAt {S : Type 0} (at : ℕ) (replies : List GivenReply) (old new : Chained S) : Type 0 where
  pub before : Linked S
  pub front : FoundFront
  pub node : Seen S
  pub out : Out
  pub here : slice_get old.members at ≡ Some before
  pub runs : before.node.state.stopped ≡ None
  pub may : may_hold old.recorded before.node.state ≡ true
  pub of_number : front.number ≡ old.words.front
  pub did : IsStepOrStop (record before.node { state = keep (Looked front) before.node.state }) node out (hold (keep (Looked front) before.node.state))
  pub told : out.replies ≡ replies
  pub sent : HasSent before.node.state.place.slot out.messages (link_at old.links) (link_at new.links)
  pub are : new ≡ record old { members = slice_set old.members at (record before { node = node }); links = new.links }

-- The member, the tail of this recorded chain, ran, looked a front of this number up, and its node held it for a joiner, or stopped;
-- what it sent goes behind what is on a link, and nothing else of it changed.
pub record HoldsTo {S : Type 0} (recorded : Record) (number : ℕ) (replies : List GivenReply) (to then : List Envelope) (old new : Linked S) : Type 0 where
  pub front : FoundFront
  pub out : Out
  pub runs : old.node.state.stopped ≡ None
  pub may : may_hold recorded old.node.state ≡ true
  pub of_number : front.number ≡ number
  pub did : IsStepOrStop (record old.node { state = keep (Looked front) old.node.state }) new.node out (hold (keep (Looked front) old.node.state))
  pub told : out.replies ≡ replies
  pub behind : then ≡ to ++ map (λ sent. sent.envelope) out.messages
  pub are : new ≡ record old { node = new.node }

-- ---- a block is given

-- The member ran, and read this block of whatever volume its store keeps, at its known commit: its store was only read, and nothing else
-- of it changed.
pub record HasReadBlock {S : Type 0} (premise : Type 0) (about : S → About) (failures : S → ℕ) (keeps : S → List ℕ → Type 0) (moment : S → ℕ) (left_since : S → ℕ → List ℕ → Type 0)
    (block : ℕ) (bytes : List ℕ) (old new : Linked S) : Type 0 where
  pub runs : old.node.state.stopped ≡ None
  pub is : premise → (volume : List ℕ) → keeps old.node.store volume → bytes ≡ held_block volume old.node.state block
  pub whole : length bytes ≡ 4096
  pub only_read : HasOnlyRead premise about failures keeps moment left_since old.node.store new.node.store
  pub are : new ≡ record old { node = record old.node { store = new.node.store } }

-- the member stopped: memory ran out behind the reads, or its device refused one
abbrev pub StopsReading : {S : Type 0} → Type 0 → (S → About) → (S → ℕ) → (S → List ℕ → Type 0) → (S → ℕ) → (S → ℕ → List ℕ → Type 0) → Seen S → Seen S → Out → Type 0
StopsReading premise about failures keeps moment left_since old new out =
    (HasOnlyRead premise about failures keeps moment left_since old.store new.store × IsStepTo new.state out (stop Memory old.state)) ⊎ HasBrokenOff about failures old new out

-- the replies of a call in which the member stopped: none where it didn't
abbrev pub replies_lost : {T E : Type 0} → (E → List GivenReply) → Result T E → List GivenReply
replies_lost replies (Ok t) = []
replies_lost replies (Err e) = replies e
