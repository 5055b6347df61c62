-- What a client's call does: its session begins, is fed, ends, or hands out what waits.
use Rattle.std.specs.Prelude.{◌≡◌, ℕ, Option, Some, None, Result, Ok, Err, List, [], ◌++◌, All, map, slice_get, slice_set}
use Rattle.flush_barrier.specs.declared.session_id.SessionId.{SessionId}
use Rattle.nbd_session.specs.Demand.{asked_by}
use Rattle.nbd_session.specs.declared.demand.Demand.{Demand}
use Rattle.clients.specs.Calls.{AreAtPlaces, Changes, IsDemandOf, StayOver, TakesPiece, bytes_out}
use Rattle.clients.specs.Clients.{GoOn, Sessions, no_one, of_session}
use Rattle.clients.specs.declared.output.Output.{Output}
use Rattle.world.specs.World.{Seen}

-- the sessions became others, and nothing else changed
pub record Receives {S : Type 0} (old new : Seen S) (Did : Sessions → Sessions → Type 0) : Type 0 where
  pub did : Did old.sessions new.sessions
  pub are : new ≡ record old { sessions = new.sessions }

-- The session took the piece, and what it asks waits behind what its member has to take.
pub record Feeds {S : Type 0} (id : SessionId) (piece : List ℕ) (old new : Seen S) : Type 0 where
  pub at : ℕ
  pub queue : List Demand
  pub demands : List Demand
  pub did : Changes id old.sessions new.sessions (TakesPiece piece at demands)
  pub here : slice_get old.queues at ≡ Some queue
  pub are : new ≡ record old { sessions = new.sessions; queues = slice_set old.queues at (queue ++ demands) }

-- The session took the piece, its history goes on by it, and what it asks waits behind what was in the queue.
pub record IsFed (id : SessionId) (piece : List ℕ) (old new : Sessions) (queue later : List Demand) : Type 0 where
  pub at : ℕ
  pub demands : List Demand
  pub did : Changes id old new (TakesPiece piece at demands)
  pub own : All (IsDemandOf id old.board old.export.size) demands
  pub over : StayOver old.clients new.clients
  pub places : AreAtPlaces old new
  pub lawful : GoOn old.clients new.clients (of_session id piece) no_one (of_session id (map asked_by demands)) []
  pub behind : later ≡ queue ++ demands

-- what a call's answer says that the session was fed: the piece, unless it was refused
abbrev pub fed_in : {V E : Type 0} → SessionId → List ℕ → Option (Result V E) → SessionId → List ℕ
fed_in id piece None = no_one
fed_in id piece (Some (Ok v)) = of_session id piece
fed_in id piece (Some (Err e)) = no_one

-- what is handed out, of this session
abbrev pub given_to : SessionId → Option Output → SessionId → List ℕ
given_to id given = of_session id (bytes_out given)
