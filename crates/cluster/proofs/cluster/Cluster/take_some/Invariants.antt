use Rattle.std.proofs.Common.{vec_len}
use Rattle.std.specs.Prelude.{All}
use Rattle.export.specs.Volume.{IsForVolume}
use Rattle.export.proofs.Taken.{IsRest}
use Rattle.cluster.proofs.cluster.Cluster.take_some.Given as goal

-- what is left may be asked
abbrev pub invariant-loop-demand : goal.invariant-loop-demand
invariant-loop-demand g l = record {
  all : All (IsForVolume g.J.Agreed.board g.J.Agreed.size) l.demands.items;
  rest : IsRest l.fn.demands.items l.demands.items;
}

abbrev pub decreases-loop-demand : goal.decreases-loop-demand
decreases-loop-demand g l = vec_len l.demands
