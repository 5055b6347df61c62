-- What contracts see of a member, and what holds of every one.
use Rattle.std.specs.Prelude.{◌≡◌, ◌⊎◌, ℕ, ◌+◌, ◌*◌, ◌<◌, ◌≤◌, ◌&&◌, not, Bool, false, Option, Some, None, List, [], All, length, ⊤, if◌then◌else◌}
use Rattle.std.specs.Option.{ForSome}
use Rattle.board.specs.Seats.{BoardId, FoundFront}
use Rattle.configurations.specs.Record.{Record}
use Rattle.flush_barrier.specs.Reply.{GivenReply}
use Rattle.gate_journal.specs.declared.batch.TheConstants.{MAX_NUMBER}
use Rattle.gate_journal.specs.Batch.{AreImages, Batch, images_size}
use Rattle.local_store.specs.About.{About, HasRoom, IsOfVersionTwo}
use Rattle.version_table.specs.Held.{writes_upto}
use Rattle.volume.specs.Writes.{Fits}
use Rattle.chain_steps.specs.Node.{Commit, Delivery, NodeState, Out, Refused, Stepped, Taken, durable_of, is_stopped, last_of}
use Rattle.chain_steps.specs.Place.{is_member, is_tail}
use Rattle.chain_steps.specs.Steps.{AreImagesOf, keep, stop}
use Rattle.chain_steps.specs.Waiting.{IsOf}
use Rattle.chain_steps.specs.declared.cause.Cause.TheVariants as causes
use Rattle.chain_steps.specs.declared.found.Found.{Found}
use Rattle.chain_steps.specs.declared.found.Found.TheVariants.{Raised, Looked}
use Rattle.chain_steps.specs.declared.message.Message.{Message}
use Rattle.chain_steps.specs.declared.message.Message.TheVariants.{Put, Ack, Turn, Submit}
use Rattle.chain_steps.specs.declared.waiting.Waiting.{Waiting}
use Rattle.chain_steps.specs.declared.waiting.Waiting.TheVariants.{Plain, Fua, Read, Flush}
use Rattle.chain_core.specs.declared.refusal.Refusal.{Refusal}
use Rattle.chain_core.specs.declared.refusal.Refusal.TheVariants as refusals

-- the store that keeps the volume at the durable front, and the member's state beside it
pub record Seen (S : Type 0) : Type 0 where
  pub store : S
  pub state : NodeState

-- The state in which a member begins, in a chain that it was told: its store tells this of itself, all of that is known, and no token
-- waits. Its Turn has come, unless it joins.
abbrev pub first_state : BoardId → Record → Bool → About → NodeState
first_state board chain turned about = record {
  board = board;
  place = record { slot = about.slot; chain = chain };
  incarnation = about.incarnation;
  stopped = None;
  turned = turned;
  holds = false;
  table = record { forgotten = about.front; kept = [] };
  known = about.front;
  ticket = 1;
  waiting = [];
  found = None;
  commit = None;
}

-- no token waits at it, and it found no front that it hasn't gone on with
abbrev pub IsIdle : NodeState → Type 0
IsIdle node = (node.waiting ≡ []) × (node.found ≡ None)

-- the bytes of the volume
abbrev pub size_of : About → ℕ
size_of about = 4096 * about.geometry.blocks

-- a READ that waits lies in the volume
abbrev pub IsAskedInside : ℕ → Waiting → Type 0
IsAskedInside size (Plain ticket epoch number token) = ⊤
IsAskedInside size (Fua ticket epoch token) = ⊤
IsAskedInside size (Read offset len token) = offset + len ≤ size
IsAskedInside size (Flush token) = ⊤

-- a front that was found on the member's board; one that was raised is not below its last write
abbrev pub IsFoundBy : NodeState → Found → Type 0
IsFoundBy node (Raised front) = (front.board ≡ node.board) × (last_of node ≤ front.number)
IsFoundBy node (Looked front) = front.board ≡ node.board

-- a commit of known writes, which fits into the journal area
pub record IsUnderWay (about : About) (node : NodeState) (commit : Commit) : Type 0 where
  pub above : durable_of node < commit.front
  pub known : commit.front ≤ node.known
  pub images : AreImages about.geometry.blocks commit.images
  pub room : HasRoom about (images_size commit.images)

-- what a store keeps: such volumes, under the premise
pub record Keeping : Type 1 where
  pub premise : Type 0
  pub keeps : List ℕ → Type 0

-- a store that runs: no device call failed, its disk is of version 2, its log is there, and it keeps a volume of its size
pub record IsRunning (about : About) (keeping : Keeping) : Type 0 where
  pub whole : about.broken ≡ false
  pub version : IsOfVersionTwo about
  pub here : about.lent ≡ None
  pub keeps : keeping.premise → (volume : List ℕ) × keeping.keeps volume × (length volume ≡ size_of about)

-- the same of a store whose log may be lent out
pub record MayLend (about : About) (keeping : Keeping) : Type 0 where
  pub whole : about.broken ≡ false
  pub version : IsOfVersionTwo about
  pub keeps : keeping.premise → (volume : List ℕ) × keeping.keeps volume × (length volume ≡ size_of about)

-- the log is there, or lent for the commit under way
abbrev pub IsLentFor : Option Batch → Option Commit → Type 0
IsLentFor lent commit = ForSome lent (λ batch. commit ≡ Some (record { front = batch.front; images = batch.images }))

-- what holds of every member, whose store tells this of itself and keeps such volumes
pub record IsSound (about : About) (keeping : Keeping) (node : NodeState) : Type 0 where
  pub slot : about.slot ≡ node.place.slot
  pub incarnation : about.incarnation ≡ node.incarnation
  pub front : about.front ≡ durable_of node
  pub behind : durable_of node ≤ node.known
  pub ahead : node.known ≤ last_of node
  pub limit : last_of node ≤ MAX_NUMBER
  pub blocks : about.geometry.blocks ≤ 65536
  pub inside : All (λ k. Fits (size_of about) k.write) node.table.kept
  pub some : All (λ k. 0 < length k.write.bytes) node.table.kept
  pub owed : All (IsOf node.board) node.waiting
  pub asked : All (IsAskedInside (size_of about)) node.waiting
  pub found : ForSome node.found (IsFoundBy node)
  pub under_way : ForSome node.commit (IsUnderWay about node)
  pub running : node.stopped ≡ None → MayLend about keeping
  pub lent : node.stopped ≡ None → IsLentFor about.lent node.commit
  pub resting : ForSome node.stopped (λ cause. node.commit ≡ None)
  pub journals : keeping.premise → (volume : List ℕ) → keeping.keeps volume → ForSome node.commit (λ commit. AreImagesOf volume (writes_upto node.table commit.front) commit.images)

-- a message whose write lies in the volume, and has at least one byte
abbrev pub IsInside : ℕ → Message → Type 0
IsInside size (Put n origin write) = Fits size write × (0 < length write.bytes)
IsInside size (Ack front) = ⊤
IsInside size (Turn applied) = ⊤
IsInside size (Submit ticket write) = Fits size write × (0 < length write.bytes)

-- The call is exactly this step: the store is as it was.
pub record IsStep {S : Type 0} (old new : Seen S) (out : Out) (stepped : Stepped) : Type 0 where
  pub node : new ≡ record { store = old.store; state = stepped.node }
  pub sent : out ≡ stepped.out

-- or memory ran out, and the member stopped
abbrev pub IsStepOrStop : {S : Type 0} → Seen S → Seen S → Out → Stepped → Type 0
IsStepOrStop old new out stepped = IsStep old new out stepped ⊎ IsStep old new out (stop causes.Memory old.state)

-- its Turn has come, it holds the front for no joiner, and it is the tail of the chain that it was told
abbrev pub may_raise : NodeState → Bool
may_raise node = node.turned && not node.holds && is_tail node.place

-- the message was taken so
abbrev pub IsDelivered : {S : Type 0} → Seen S → Seen S → Out → Delivery → Type 0
IsDelivered old new out (Taken stepped) = IsStepOrStop old new out stepped
IsDelivered old new out (Refused number) = ⊥

-- 154 once stopped, else 151 where the slot isn't in the chain
abbrev pub turned_away : NodeState → Option ℕ
turned_away node = if is_stopped node then Some 154 else (if is_member node.place then None else Some 151)

-- Nothing changed.
pub record IsUnchanged {S : Type 0} (old new : Seen S) (replies : List GivenReply) : Type 0 where
  pub node : new ≡ old
  pub replies_none : replies ≡ []

-- The member stopped in the call.
pub record HasStopped {S : Type 0} (old new : Seen S) (replies : List GivenReply) (stepped : Stepped) : Type 0 where
  pub node : new ≡ record { store = old.store; state = stepped.node }
  pub replies_told : replies ≡ stepped.out.replies

-- why a request's token comes back: it was turned away, or memory ran out; or, where `Stops` says so, the member stopped by
-- this step
abbrev pub IsRefusedBy : {S : Type 0} → (Stops : Type 0) → Stepped → Seen S → Seen S → List GivenReply → Refusal → Type 0
IsRefusedBy Stops stepped old new replies refusals.Memory = (turned_away old.state ≡ None) × IsUnchanged old new replies
IsRefusedBy Stops stepped old new replies refusals.NotMember = (turned_away old.state ≡ Some 151) × IsUnchanged old new replies
IsRefusedBy Stops stepped old new replies refusals.Stopped =
    ((turned_away old.state ≡ Some 154) × IsUnchanged old new replies)
    ⊎ ((turned_away old.state ≡ None) × Stops × HasStopped old new replies stepped)
IsRefusedBy Stops stepped old new replies refusals.Full = ⊥
IsRefusedBy Stops stepped old new replies refusals.Early = ⊥
IsRefusedBy Stops stepped old new replies refusals.Busy = ⊥

-- The member keeps a front of this number, which this seat found on the board.
pub record Keeps {S : Type 0} (found : FoundFront → Found) (board : BoardId) (seat number : ℕ) (old new : Seen S) : Type 0 where
  pub front : FoundFront
  pub of_board : front.board ≡ board
  pub of_seat : front.seat ≡ seat
  pub of_number : front.number ≡ number
  pub node : new ≡ record old { state = keep (found front) old.state }
