use Rattle.std.proofs.Common.{vec_len}
use Rattle.std.specs.Prelude.{All}
use Rattle.export.specs.Volume.{IsForVolume}
use Rattle.sessions.proofs.attended.Attended.send_each.Given as goal

-- what is left may be asked
abbrev pub invariant-loop-demands : goal.invariant-loop-demands
invariant-loop-demands g l = All (IsForVolume g.V.Volume.board g.V.Volume.size) l.demands.items

abbrev pub decreases-loop-demands : goal.decreases-loop-demands
decreases-loop-demands g l = vec_len l.demands
