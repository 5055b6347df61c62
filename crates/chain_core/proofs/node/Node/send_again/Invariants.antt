use Rattle.std.proofs.Common.{◌≡◌, ◌++◌, map}
use Rattle.std.specs.VecDeque.Iter.{deque_iter_rest}
use Rattle.version_table.specs.Held.{kept_after}
use Rattle.chain_core.proofs.Again.{put_as}
use Rattle.chain_core.proofs.node.Node.send_again.Given as goal

-- those that were sent again, and those that are left
abbrev pub invariant-loop-kept : goal.invariant-loop-kept
invariant-loop-kept g l = l.sent.items ++ map (put_as l.to l.epoch) (deque_iter_rest l.kept-iterator) ≡ map (put_as l.to l.epoch) (kept_after l.self.state.table l.self.state.known)
