-- What one member of a chain knows, and what a step of it sends and answers.
use Rattle.std.specs.Prelude.{ℕ, Bool, Option, List, is_some}
use Rattle.board.specs.Seats.{BoardId}
use Rattle.flush_barrier.specs.Reply.{GivenReply}
use Rattle.gate_journal.specs.Image.{Image}
use Rattle.version_table.specs.Held.{Held, applied_of}
use Rattle.chain_steps.specs.Place.{Standing}
use Rattle.chain_steps.specs.declared.cause.Cause.{Cause}
use Rattle.chain_steps.specs.declared.found.Found.{Found}
use Rattle.chain_steps.specs.declared.message.Sent.{Sent}
use Rattle.chain_steps.specs.declared.waiting.Waiting.{Waiting}

-- a commit under way: the front after it, and the images that it journals
pub record Commit : Type 0 where
  pub front : ℕ
  pub images : List Image

-- A member: the board of its chain, its slot and the chain that it was told, its incarnation, why it stopped if it did,
-- whether this epoch's Turn has come, and whether it holds the front for a joiner; the durable front with the writes
-- behind it, the known commit, the next ticket, the tokens that wait in the order in which they were taken, a front that
-- it found, and a commit under way.
pub record NodeState : Type 0 where
  pub board : BoardId
  pub place : Standing
  pub incarnation : ℕ
  pub stopped : Option Cause
  pub turned : Bool
  pub holds : Bool
  pub table : Held
  pub known : ℕ
  pub ticket : ℕ
  pub waiting : List Waiting
  pub found : Option Found
  pub commit : Option Commit

-- its durable front, and its last applied write
abbrev pub durable_of : NodeState → ℕ
durable_of node = node.table.forgotten

abbrev pub last_of : NodeState → ℕ
last_of node = applied_of node.table

abbrev pub epoch_of : NodeState → ℕ
epoch_of node = node.place.chain.epoch

abbrev pub is_stopped : NodeState → Bool
is_stopped node = is_some node.stopped

-- the messages that a step sends, and whom it answers, both in order
pub record Out : Type 0 where
  pub messages : List Sent
  pub replies : List GivenReply

-- the member after a step, and what went out
pub record Stepped : Type 0 where
  pub node : NodeState
  pub out : Out

-- What becomes of a message: it is taken, by a step; or it is refused with this number, stays at the front of its link, and
-- nothing changes.
pub data Delivery : Type 0 where
  Taken : Stepped → Delivery
  Refused : (number : ℕ) → Delivery
