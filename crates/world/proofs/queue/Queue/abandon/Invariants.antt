use Rattle.std.specs.VecDeque.{deque_len}
use Rattle.world.proofs.queue.Queue.abandon.Given as goal

-- the demands that are left
abbrev pub decreases-loop-demand : goal.decreases-loop-demand
decreases-loop-demand l = deque_len l.demands
