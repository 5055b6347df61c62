-- What clients of the one volume see.
use Rattle.std.specs.Prelude.{ℕ, List}
use Rattle.flush_barrier.specs.declared.error_code.ErrorCode.{ErrorCode}
use Rattle.flush_barrier.specs.declared.session_id.SessionId.{SessionId}
use Rattle.volume.specs.Writes.{Placed}

-- what a client asks of the volume
pub data Request : Type 0 where
  Read : (offset len : ℕ) → Request
  Write : (write : Placed) → Request
  Fua : (write : Placed) → Request
  Flush : Request

-- what it is told: that it was done, with the bytes of a READ, or an error
pub data Outcome : Type 0 where
  Done : (bytes : List ℕ) → Outcome
  Failed : (error : ErrorCode) → Outcome

-- a request sent (its session asks it, so its last byte was fed), or a reply put out
pub data ClientEvent : Type 0 where
  Sent : (session : SessionId) → (cookie : ℕ) → (request : Request) → ClientEvent
  Answered : (session : SessionId) → (cookie : ℕ) → (outcome : Outcome) → ClientEvent
