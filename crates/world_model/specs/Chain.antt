-- What a chain has of its board in use, what a member shows of its tokens, tickets and fronts, and what clients see of replies.
use Rattle.std.specs.Prelude.{◌≡◌, ◌⊎◌, ℕ, ◌<◌, Option, None, Some, List, [], ◌∷◌, map, All}
use Rattle.flush_barrier.specs.Reply.{GivenReply}
use Rattle.flush_barrier.specs.declared.error_code.ErrorCode.{ErrorCode}
use Rattle.gate_journal.specs.Receipt.{Receipt}
use Rattle.version_table.specs.declared.kept.Origin.{Origin}
use Rattle.chain_steps.specs.Node.{NodeState}
use Rattle.chain_steps.specs.declared.found.Found.{Found}
use Rattle.chain_steps.specs.declared.found.Found.TheVariants.{Raised, Looked}
use Rattle.chain_steps.specs.declared.waiting.Waiting.{Waiting}
use Rattle.world_model.specs.Backing.{Muster}
use Rattle.world_model.specs.Event.{Answered, ClientEvent, Done, Failed, Outcome}
use Rattle.world_model.specs.Requests.{Owing, Requests, origin_of, ticket_of}
use Rattle.world_model.specs.Requests as requests

-- the board, and what of it is in use: the committed front, the mask of counted slots and their gauges; the fronts that were
-- looked up, each for a muster to come; the musters that began; and the receipts that aren't posted
pub record BoardInUse : Type 0 where
  pub front : ℕ
  pub mask : ℕ
  pub gauges : List Receipt
  pub fronts : List ℕ
  pub musters : List Muster
  pub receipts : List Receipt

-- ---- what a member shows of its tokens and fronts

-- a token that waits at the member
abbrev pub at_member : NodeState → Waiting → Owing
at_member node w = record { slot = node.place.slot; incarnation = node.incarnation; token = w }

abbrev pub owing_at : NodeState → List Waiting → List Owing
owing_at node ws = map (at_member node) ws

-- the front that the member at this slot looked up, if it keeps one
abbrev pub looked_by : ℕ → Option Found → List requests.Looked
looked_by slot None = []
looked_by slot (Some (Raised front)) = []
looked_by slot (Some (Looked front)) = record { slot = slot; front = front.number } ∷ []

-- the front that it raised, if it keeps one
abbrev pub raised_by : Option Found → List ℕ
raised_by None = []
raised_by (Some (Raised front)) = front.number ∷ []
raised_by (Some (Looked front)) = []

-- ---- tickets

-- a write of this origin was submitted by the member of this next one, before that
abbrev pub IsBefore : Origin → Origin → Type 0
IsBefore next origin = origin.slot ≡ next.slot → origin.incarnation ≡ next.incarnation → origin.ticket < next.ticket

-- a token that waits for a write has such an origin
abbrev pub IsTokenBefore : Origin → Owing → Type 0
IsTokenBefore next o = (ticket : ℕ) → ticket_of o.token ≡ Some ticket → IsBefore next (origin_of o ticket)

-- all that a member submitted has a ticket below its next
pub record AreBefore (r : Requests) (next : Origin) : Type 0 where
  pub line : All (λ k. IsBefore next k.origin) r.line
  pub submits : All (λ x. IsBefore next x.origin) r.submits
  pub tokens : All (IsTokenBefore next) r.tokens

-- ---- replies

-- what a client is told by a reply
abbrev pub outcome_of : Option ErrorCode → List ℕ → Outcome
outcome_of None payload = Done payload
outcome_of (Some error) payload = Failed error

abbrev pub reply_event : GivenReply → ClientEvent
reply_event r = Answered r.session r.cookie (outcome_of r.error r.payload)

-- The events are those of the replies, in order, but for those that no session put out.
abbrev pub ArePutOut : List GivenReply → List ClientEvent → Type 0
ArePutOut [] events = events ≡ []
ArePutOut (r ∷ rs) events = ArePutOut rs events ⊎ ((more : List ClientEvent) × (events ≡ reply_event r ∷ more) × ArePutOut rs more)
