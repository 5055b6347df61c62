use Rattle.std.proofs.Common.{arith}
use Rattle.cluster.proofs.cluster.Cluster.new.Goals as goal

pub invariant_of-result : goal.invariant_of-result
invariant_of-result g c = record {
  of_board = c.requires.board;
  of_size = c.requires.size;
  eight = omega (arith, c.loop.invariant.0, c.loop.auto.counter-end, c.loop-test.false);
}
