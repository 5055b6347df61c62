use Rattle.links.specs.Ends.{IsSameReceiver}
use Rattle.chain_tests.proofs.links_tests.take_all.Given as goal

abbrev pub invariant-loop-number : goal.invariant-loop-number
invariant-loop-number g l = IsSameReceiver l.fn.receiving l.receiving
