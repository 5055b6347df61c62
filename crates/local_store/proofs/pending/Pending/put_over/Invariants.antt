use Rattle.local_store.proofs.Runs.{IsOverTo}
use Rattle.local_store.proofs.pending.Pending.put_over.Given as goal

-- the blocks that the loop has passed have their images over them
abbrev pub invariant-loop-i : goal.invariant-loop-i
invariant-loop-i l = IsOverTo l.self l.first l.count l.fn.bytes l.bytes l.i
