use Rattle.joining.specs.Rebuilding.{IsSteady, KeepStill}
use Rattle.joining.proofs.rebuilding.tell_all.Given as goal

-- those so far were told
abbrev pub invariant-loop : goal.invariant-loop
invariant-loop g l = record {
  steady : IsSteady l.fn.world.chain l.world.chain;
  keep : KeepStill g.S.StoreLike.keeps l.fn.world.chain l.world.chain;
}
