use Rattle.std.proofs.Common.{ℕ}
use Rattle.flusher.specs.Plan.{IsPending, IsWithin}
use Rattle.flusher.proofs.plan.count_from.Given as goal

-- the blocks that the loop has passed are pending
abbrev pub invariant-loop-count : goal.invariant-loop-count
invariant-loop-count g l = (b : ℕ) → IsWithin l.fn.first l.count b → IsPending l.fn.pending b
