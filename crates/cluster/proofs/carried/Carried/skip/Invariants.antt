use Rattle.std.proofs.Common.{length}
use Rattle.cluster.specs.Carried.{order_of}
use Rattle.cluster.proofs.carried.Carried.skip.Given as goal

abbrev pub decreases-loop-sent : goal.decreases-loop-sent
decreases-loop-sent l = length (order_of l.self)
