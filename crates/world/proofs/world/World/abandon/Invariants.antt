use Rattle.std.proofs.Common.{vec_len}
use Rattle.world.proofs.world.World.abandon.Given as goal

-- the queues that are left
abbrev pub decreases-loop-queue : goal.decreases-loop-queue
decreases-loop-queue g l = vec_len l.queues
