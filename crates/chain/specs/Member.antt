-- What contracts see of a member with what of the board it has in use, and as which member of a view it is shown.
use Rattle.std.specs.Prelude.{◌≡◌, ℕ, ◌≤◌, Option, Some, None, List, [], ◌∷◌, All, length, map}
use Rattle.board.specs.Seats.{BoardId, FoundFront, FoundGauge}
use Rattle.flush_barrier.specs.Reply.{GivenReply}
use Rattle.gate_journal.specs.Receipt.{Receipt}
use Rattle.gate_journal.specs.declared.batch.TheConstants.{MAX_NUMBER}
use Rattle.local_store.specs.About.{About, meaning_with}
use Rattle.local_store.specs.Meaning.{Means}
use Rattle.volume.specs.Writes.{Fits}
use Rattle.chain_steps.specs.Node.{NodeState, Out, durable_of, last_of}
use Rattle.chain_steps.specs.Steps.{volume_at}
use Rattle.chain_core.specs.Node.{Seen}
use Rattle.world_model.specs.Backing as model
use Rattle.world_model.specs.Requests.{Held}
use Rattle.chain_model.specs.View.{Member}
use Rattle.chain.specs.declared.muster.Muster.{Muster}

-- A member with its store: a front that was looked up for a crew, a crew with its gauges, and a receipt that isn't posted.
pub record Linked (S : Type 0) : Type 0 where
  pub node : Seen S
  pub front : Option FoundFront
  pub muster : Option Muster
  pub receipt : Option Receipt

-- its store's disk is its own: that of its slot and its incarnation
pub record HasOwnDisk {S : Type 0} (about : S → About) (m : Linked S) : Type 0 where
  pub slot : (about m.node.store).slot ≡ m.node.state.place.slot
  pub incarnation : (about m.node.store).incarnation ≡ m.node.state.incarnation

-- the writes that it keeps lie in a volume of so many bytes
abbrev pub KeepsInside : {S : Type 0} → ℕ → Linked S → Type 0
KeepsInside size m = All (λ k. Fits size k.write) m.node.state.table.kept

-- its durable front is known, what is known is applied, and each number is one that a write may have
pub record IsInOrder (node : NodeState) : Type 0 where
  pub behind : durable_of node ≤ node.known
  pub ahead : node.known ≤ last_of node
  pub limit : last_of node ≤ MAX_NUMBER

-- this is of the board, and was found by the seat
abbrev pub IsFrontOf : BoardId → ℕ → FoundFront → Type 0
IsFrontOf id seat front = (front.board ≡ id) × (front.seat ≡ seat)

abbrev pub IsMusterOf : BoardId → ℕ → Muster → Type 0
IsMusterOf id seat muster = (muster.crew.board ≡ id) × (muster.crew.seat ≡ seat)

-- the member ran, its node did so and sent nothing, and nothing else of it changed
pub record HasCalled {S : Type 0} (Did : Seen S → Seen S → Out → Type 0) (replies : List GivenReply) (old new : Linked S) : Type 0 where
  pub out : Out
  pub runs : old.node.state.stopped ≡ None
  pub did : Did old.node new.node out
  pub silent : out.messages ≡ []
  pub told : out.replies ≡ replies
  pub are : new ≡ record old { node = new.node }

-- ---- as which member it is shown

-- at the volume of its durable front, with the demands of its sessions
abbrev pub member_of : {S : Type 0} → Linked S → List ℕ → List Held → Member
member_of m volume demands = record { node = m.node.state; volume = volume; demands = demands }

-- a content of its disk means some front from the durable one to the known commit, with the volume there
abbrev pub IsLeft : About → List ℕ → NodeState → List ℕ → Type 0
IsLeft about volume node c = (front : ℕ) × (durable_of node ≤ front) × (front ≤ node.known) × Means (meaning_with (record about { front = front }) (volume_at volume node front)) c

-- The member is shown so: while it runs its store keeps that volume, of so many bytes; and whatever a stop leaves of its disk is
-- some front from the durable one to the known commit. Its store tells the durable front, which is known.
pub record IsShown {S : Type 0} (about : S → About) (keeps : S → List ℕ → Type 0) (may_leave_now : S → List ℕ → Type 0) (size : ℕ) (m : Linked S) (shown : Member) : Type 0 where
  pub is : shown ≡ member_of m shown.volume shown.demands
  pub whole : length shown.volume ≡ size
  pub keeping : m.node.state.stopped ≡ None → keeps m.node.store shown.volume
  pub left : (c : List ℕ) → may_leave_now m.node.store c → IsLeft (about m.node.store) shown.volume m.node.state c
  pub durable : (about m.node.store).front ≡ durable_of m.node.state
  pub behind : durable_of m.node.state ≤ m.node.state.known

-- ---- what of the board it has in use

abbrev pub fronts_of : Option FoundFront → List ℕ
fronts_of None = []
fronts_of (Some front) = front.number ∷ []

-- a gauge as it was found, whosever
abbrev pub gauge_seen : FoundGauge → Receipt
gauge_seen gauge = record { slot = gauge.slot; front = gauge.front }

abbrev pub muster_seen : Muster → model.Muster
muster_seen muster = record { front = muster.crew.front; mask = muster.crew.mask; gauges = map gauge_seen muster.gauges }

abbrev pub musters_of : Option Muster → List model.Muster
musters_of None = []
musters_of (Some muster) = muster_seen muster ∷ []

abbrev pub receipts_of : Option Receipt → List Receipt
receipts_of None = []
receipts_of (Some receipt) = receipt ∷ []
