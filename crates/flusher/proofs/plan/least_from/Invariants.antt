use Rattle.std.proofs.Common.{◌<◌, ◌≤◌, ℕ}
use Rattle.flusher.specs.Plan.{IsPending}
use Rattle.flusher.proofs.plan.least_from.Given as goal

abbrev pub invariant-loop-block : goal.invariant-loop-block
invariant-loop-block g l = (b : ℕ) → l.fn.first ≤ b → b < l.block → ¬ IsPending l.fn.pending b
