use Rattle.life.proofs.Starting.{disk_in}
use Rattle.life.proofs.Stops.{NoneBefore}
use Rattle.life.proofs.living.member_met_stop.Given as goal

abbrev pub invariant-loop-at : goal.invariant-loop-at
invariant-loop-at l = record {
  none : NoneBefore disk_in l.fn.world l.at;
}
