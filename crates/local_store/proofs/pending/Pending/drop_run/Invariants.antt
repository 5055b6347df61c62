use Rattle.local_store.specs.Pending.{AreCleared}
use Rattle.local_store.proofs.pending.Pending.drop_run.Given as goal

-- the blocks that the loop has passed are home
abbrev pub invariant-loop-i : goal.invariant-loop-i
invariant-loop-i l = AreCleared l.fn.first l.i l.fn.self l.self
