use Rattle.local_store.specs.Pending.{AreCleared}
use Rattle.local_store.proofs.plain.clear.Given as goal

-- the blocks that the loop has passed are pending no more
abbrev pub invariant-loop-i : goal.invariant-loop-i
invariant-loop-i l = AreCleared l.fn.run.first l.i l.fn.pending l.pending
