-- What a member does with the first message of a link.
use Rattle.std.specs.Prelude.{◌≡◌, ◌⊎◌, ℕ, ◌+◌, ◌-◌, Option, Some, None, Result, Ok, Err, List, [], ◌∷◌, ◌++◌, map, slice_get, slice_set}
use Rattle.flush_barrier.specs.Reply.{GivenReply}
use Rattle.chain_steps.specs.Node.{NodeState, Refused, Stepped, Taken, last_of}
use Rattle.chain_steps.specs.Place.{predecessor_of, successor_of}
use Rattle.chain_steps.specs.Steps.{deliver, stop}
use Rattle.chain_steps.specs.declared.cause.Cause.{Cause}
use Rattle.chain_steps.specs.declared.cause.Cause.TheVariants as causes
use Rattle.chain_steps.specs.declared.message.Envelope.{Envelope}
use Rattle.chain_steps.specs.declared.message.Message.{Message}
use Rattle.chain_steps.specs.declared.message.Message.TheVariants as messages
use Rattle.chain_core.specs.Node.{Seen}
use Rattle.chain_core.specs.Refusal.{number_of}
use Rattle.chain_core.specs.declared.refusal.Refusal.{Refusal}
use Rattle.chain_model.specs.Laws as laws
use Rattle.chain.specs.Chain.{Chained}
use Rattle.chain.specs.Links.{link_at}
use Rattle.chain.specs.Member.{Linked}

-- ---- of one member

-- whom it tells of the message: those before it of an Ack, and those behind it of all else
abbrev pub target_of : NodeState → Message → Option ℕ
target_of node (messages.Put n origin write) = successor_of node.place
target_of node (messages.Ack front) = predecessor_of node.place
target_of node (messages.Turn applied) = successor_of node.place
target_of node (messages.Submit ticket write) = successor_of node.place

-- how many messages it sends then at most
abbrev pub most_of : NodeState → Message → ℕ
most_of node (messages.Put n origin write) = 1
most_of node (messages.Ack front) = 1
most_of node (messages.Turn applied) = last_of node - node.known + 1
most_of node (messages.Submit ticket write) = 1

-- The first message of the link, from the member at the slot, is taken by this step, after which the member runs: it is gone
-- from the link, and what the step sends is sent.
pub record HasTaken {S : Type 0} (slot : ℕ) (old new : Seen S) (link left sent : List Envelope) (replies : List GivenReply) : Type 0 where
  pub envelope : Envelope
  pub stepped : Stepped
  pub ran : old.state.stopped ≡ None
  pub first : link ≡ envelope ∷ left
  pub taken : deliver slot envelope old.state ≡ Taken stepped
  pub runs : stepped.node.stopped ≡ None
  pub are : new ≡ record { store = old.store; state = stepped.node }
  pub sends : sent ≡ map (λ message. message.envelope) stepped.out.messages
  pub told : replies ≡ stepped.out.replies

-- The member stopped, since memory ran out, or since the message isn't one that comes in a chain: the message stays on its link,
-- and nothing is sent.
pub record HasHalted {S : Type 0} (slot : ℕ) (old new : Seen S) (link left sent : List Envelope) (replies : List GivenReply) : Type 0 where
  pub envelope : Envelope
  pub rest : List Envelope
  pub cause : Cause
  pub ran : old.state.stopped ≡ None
  pub first : link ≡ envelope ∷ rest
  pub why : (cause ≡ causes.Memory) ⊎ (deliver slot envelope old.state ≡ Taken (stop cause old.state))
  pub are : new ≡ record { store = old.store; state = (stop cause old.state).node }
  pub stays : left ≡ link
  pub silent : sent ≡ []
  pub told : replies ≡ (stop cause old.state).out.replies

-- what becomes of a member, and of a link, and what is sent, where the first message of the link is for the member
abbrev pub Passes : {S : Type 0} → ℕ → Seen S → Seen S → List Envelope → List Envelope → List Envelope → List GivenReply → Type 0
Passes slot old new link left sent replies = HasTaken slot old new link left sent replies ⊎ HasHalted slot old new link left sent replies

-- the same, where what is sent goes behind what is on another link
pub record PassesTo {S : Type 0} (slot : ℕ) (old new : Seen S) (link left to then : List Envelope) (replies : List GivenReply) : Type 0 where
  pub sent : List Envelope
  pub did : Passes slot old new link left sent replies
  pub behind : then ≡ to ++ sent

-- the member refuses the first message of the link with this number
pub record IsRefused (slot : ℕ) (node : NodeState) (link : List Envelope) (number : ℕ) : Type 0 where
  pub envelope : Envelope
  pub rest : List Envelope
  pub first : link ≡ envelope ∷ rest
  pub refused : deliver slot envelope node ≡ Refused number

-- ---- of a chain

-- The member at the place took the first message that came from the slot by its chain link, and sent what that step sends.
pub record MessageIsTaken {S : Type 0} (from at : ℕ) (old new : Chained S) (replies : List GivenReply) : Type 0 where
  pub before : Linked S
  pub envelope : Envelope
  pub stepped : Stepped
  pub here : slice_get old.members at ≡ Some before
  pub ran : before.node.state.stopped ≡ None
  pub taken : deliver from envelope before.node.state ≡ Taken stepped
  pub runs : stepped.node.stopped ≡ None
  pub told : replies ≡ stepped.out.replies
  pub passed : laws.HasPassed from before.node.state.place.slot envelope stepped.out.messages (link_at old.links) (link_at new.links)
  pub are : new ≡ record old { members = slice_set old.members at (record before { node = record { store = before.node.store; state = stepped.node } }); links = new.links }

-- The member at the place took the first message that came from the slot by its submit link, and sent what that step sends.
pub record SubmitIsTaken {S : Type 0} (from at : ℕ) (old new : Chained S) (replies : List GivenReply) : Type 0 where
  pub before : Linked S
  pub envelope : Envelope
  pub stepped : Stepped
  pub here : slice_get old.members at ≡ Some before
  pub ran : before.node.state.stopped ≡ None
  pub taken : deliver from envelope before.node.state ≡ Taken stepped
  pub runs : stepped.node.stopped ≡ None
  pub told : replies ≡ stepped.out.replies
  pub gone : laws.HasTaken from before.node.state.place.slot envelope (link_at old.submits) (link_at new.submits)
  pub sent : laws.HasSent before.node.state.place.slot stepped.out.messages (link_at old.links) (link_at new.links)
  pub are : new ≡ record old { members = slice_set old.members at (record before { node = record { store = before.node.store; state = stepped.node } }); links = new.links; submits = new.submits }

-- The member at the place stopped, since memory ran out, or since the first message from the slot isn't one that comes in a chain: it
-- stays on its link, and nothing is sent.
pub record MessageHalts {S : Type 0} (links_of : Chained S → List (List Envelope)) (from at : ℕ) (old new : Chained S) (replies : List GivenReply) : Type 0 where
  pub before : Linked S
  pub envelope : Envelope
  pub rest : List Envelope
  pub cause : Cause
  pub here : slice_get old.members at ≡ Some before
  pub ran : before.node.state.stopped ≡ None
  pub first : link_at (links_of old) from before.node.state.place.slot ≡ envelope ∷ rest
  pub why : (cause ≡ causes.Memory) ⊎ (deliver from envelope before.node.state ≡ Taken (stop cause before.node.state))
  pub told : replies ≡ (stop cause before.node.state).out.replies
  pub are : new ≡ record old { members = slice_set old.members at (record before { node = record { store = before.node.store; state = (stop cause before.node.state).node } }) }

abbrev pub MessageComes : {S : Type 0} → (from at : ℕ) → Chained S → Chained S → List GivenReply → Type 0
MessageComes from at old new replies = (MessageIsTaken from at old new replies ⊎ MessageHalts (λ c. c.links) from at old new replies)

abbrev pub SubmitComes : {S : Type 0} → (from at : ℕ) → Chained S → Chained S → List GivenReply → Type 0
SubmitComes from at old new replies = (SubmitIsTaken from at old new replies ⊎ MessageHalts (λ c. c.submits) from at old new replies)

-- No message is on this link to the member at the place, and nothing changed.
pub record HasNone {S : Type 0} (links_of : Chained S → List (List Envelope)) (from at : ℕ) (old new : Chained S) : Type 0 where
  pub member : Linked S
  pub here : slice_get old.members at ≡ Some member
  pub empty : link_at (links_of old) from member.node.state.place.slot ≡ []
  pub same : new ≡ old

-- The link is one from the member at the place to itself, and nothing changed.
pub record IsItself {S : Type 0} (from at : ℕ) (old new : Chained S) : Type 0 where
  pub member : Linked S
  pub here : slice_get old.members at ≡ Some member
  pub itself : from ≡ member.node.state.place.slot
  pub same : new ≡ old

-- The member at the place refuses the first message of the link, which stays there, and nothing changed.
pub record Refuses {S : Type 0} (links_of : Chained S → List (List Envelope)) (from at : ℕ) (old new : Chained S) (refusal : Refusal) : Type 0 where
  pub member : Linked S
  pub here : slice_get old.members at ≡ Some member
  pub refused : IsRefused from member.node.state (link_at (links_of old) from member.node.state.place.slot) (number_of refusal)
  pub same : new ≡ old

-- the replies in a call's answer, where it has some
abbrev pub replies_in : {V E : Type 0} → (V → List GivenReply) → Result (Option V) E → List GivenReply
replies_in replies (Ok None) = []
replies_in replies (Ok (Some given)) = replies given
replies_in replies (Err refusal) = []
