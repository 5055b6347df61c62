use Rattle.links.specs.Ends.{IsSameSender}
use Rattle.chain_tests.proofs.links_tests.put_all.Given as goal

abbrev pub invariant-loop-number : goal.invariant-loop-number
invariant-loop-number g l = IsSameSender l.fn.sending l.sending
