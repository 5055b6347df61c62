-- What contracts see of a member with its outbox.
use Rattle.std.specs.Prelude.{◌≡◌, ◌⊎◌, ℕ, Bool, false, ◌&&◌, ◌==◌, Option, Some, List, [], ◌∷◌, ◌++◌, filter}
use Rattle.board.specs.Seats.{BoardId}
use Rattle.flush_barrier.specs.Reply.{GivenReply}
use Rattle.local_store.specs.About.{About}
use Rattle.chain_steps.specs.Node.{Out}
use Rattle.chain_steps.specs.Steps.{stop}
use Rattle.chain_steps.specs.declared.cause.Cause.TheVariants as causes
use Rattle.chain_steps.specs.declared.message.Message.{Message}
use Rattle.chain_steps.specs.declared.message.Message.TheVariants.{Put, Ack, Turn, Submit}
use Rattle.chain_steps.specs.declared.message.Sent.{Sent}
use Rattle.chain_core.specs.Node.{IsStep, Seen, size_of}
use Rattle.member.specs.declared.outbox.Route.{Route}
use Rattle.member.specs.declared.outbox.Route.TheVariants as routes

-- by which way a message goes: on to the successor, back to the predecessor, or to the head, as a submitted write
abbrev pub route_of : Message → Route
route_of (Put n origin write) = routes.On
route_of (Ack front) = routes.Back
route_of (Turn applied) = routes.On
route_of (Submit ticket write) = routes.ToHead

-- what was sent by each way and nobody has fetched yet, the oldest first: of each call one bundle
pub record Boxes : Type 0 where
  pub on : List (List Sent)
  pub back : List (List Sent)
  pub to_head : List (List Sent)

abbrev pub none_sent : Boxes
none_sent = record { on = []; back = []; to_head = [] }

abbrev pub box_of : Route → Boxes → List (List Sent)
box_of routes.On boxes = boxes.on
box_of routes.Back boxes = boxes.back
box_of routes.ToHead boxes = boxes.to_head

abbrev pub with_box : Route → List (List Sent) → Boxes → Boxes
with_box routes.On box boxes = record boxes { on = box }
with_box routes.Back box boxes = record boxes { back = box }
with_box routes.ToHead box boxes = record boxes { to_head = box }

-- what a call sends is the last bundle of its box, if it sends anything
abbrev pub with_bundle : Boxes → List Sent → Boxes
with_bundle boxes [] = boxes
with_bundle boxes (sent ∷ more) = with_box (route_of sent.envelope.message) (box_of (route_of sent.envelope.message) boxes ++ (sent ∷ more) ∷ []) boxes

-- the node, and its outbox
pub record Posted (S : Type 0) : Type 0 where
  pub node : Seen S
  pub outbox : Boxes

-- the member is of this board, and its volume has so many bytes
pub record IsAgreed {S : Type 0} (about : S → About) (board : Option BoardId) (size : ℕ) (node : Seen S) : Type 0 where
  pub of_board : board ≡ Some node.state.board
  pub of_size : size_of (about node.store) ≡ size

-- The call is such a call of the node: what it sent is in the outbox, and its replies come out.
pub record HasPosted {S : Type 0} (Calls : Seen S → Seen S → Out → Type 0) (old new : Posted S) (replies : List GivenReply) : Type 0 where
  pub out : Out
  pub calls : Calls old.node new.node out
  pub posted : new.outbox ≡ with_bundle old.outbox out.messages
  pub told : replies ≡ out.replies

-- or memory ran out before it, and the member stopped
abbrev pub OrRanOut : {S : Type 0} → (Seen S → Seen S → Out → Type 0) → Seen S → Seen S → Out → Type 0
OrRanOut Calls old new out = Calls old new out ⊎ IsStep old new out (stop causes.Memory old.state)

-- The call is such a call of the node, which sends nothing: the outbox is as it was, and its replies come out.
pub record HasAnswered {S : Type 0} (Calls : Seen S → Seen S → Out → Type 0) (old new : Posted S) (replies : List GivenReply) : Type 0 where
  pub out : Out
  pub calls : Calls old.node new.node out
  pub told : replies ≡ out.replies
  pub same : new.outbox ≡ old.outbox
