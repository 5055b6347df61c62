use Rattle.std.proofs.Common.{◌≡◌}
use Rattle.std.specs.VecDeque.{deque_len}
use Rattle.mail.specs.Given.{flat}
use Rattle.cluster.proofs.carried.Carried.of.Given as goal

abbrev pub invariant-loop-bundle : goal.invariant-loop-bundle
invariant-loop-bundle l = flat (λ bundle. bundle.items) l.bundles.items ≡ flat (λ bundle. bundle.items) l.fn.bundles.items

abbrev pub decreases-loop-bundle : goal.decreases-loop-bundle
decreases-loop-bundle l = deque_len l.bundles
