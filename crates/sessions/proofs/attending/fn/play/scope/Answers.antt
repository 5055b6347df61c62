use denote.Param.Send.{sendable}
use Rattle.std.proofs.Crossing.{crosses}
use Rattle.sessions.proofs.Sends.{attended_sync}
use Rattle.sessions.proofs.attending.fn.play.scope.Goals as goal

pub spawn-requires-send-F : goal.spawn-requires-send-F
spawn-requires-send-F g c κs within = search (sendable, crosses, attended_sync) depth 20
