-- A session before anything came.
use Rattle.std.specs.Prelude.{[]}
use Rattle.board.specs.Seats.{BoardId}
use Rattle.flush_barrier.specs.declared.session_id.SessionId.{SessionId}
use Rattle.nbd_codec.specs.Handshake.{greeting_encoding}
use Rattle.nbd_session.specs.declared.answer.Export.{Export}
use Rattle.nbd_session.specs.declared.phase.Phase.TheVariants.{Greeted}
use Rattle.nbd_session.specs.Session.{State}

-- a session of a board's chain, at an export, whose greeting waits to go out
abbrev pub greeted : BoardId → SessionId → Export → State
greeted board id export = record { board = board; id = id; export = export; phase = Greeted; in_flight = 0; kept = []; output = greeting_encoding }
