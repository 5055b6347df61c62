-- What contracts see of a token.
use Rattle.std.specs.Prelude.{ℕ, Option}
use Rattle.board.specs.Seats.{BoardId}
use Rattle.flush_barrier.specs.declared.session_id.SessionId.{SessionId}

-- a reply is owed to this session under this cookie, at a member of this board's chain
pub record Owed : Type 0 where
  pub session : SessionId
  pub cookie : ℕ
  pub board : BoardId

-- a reply is owed so, once a floor of the board reaches the number, if it is known yet
pub record OwedAt : Type 0 where
  pub session : SessionId
  pub cookie : ℕ
  pub board : BoardId
  pub number : Option ℕ
