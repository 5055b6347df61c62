use Rattle.std.proofs.Common.{arith}
use Rattle.flusher.proofs.Places.{run_has_place}
use Rattle.flusher.proofs.plan.count_from.Goals as goal

pub returns-then-not-is_pending-clause-within : goal.returns-then-not-is_pending-clause-within
returns-then-not-is_pending-clause-within g c = run_has_place c.args.pending.now c.args.first c.loop-count.count (omega (arith, c.loop-count.auto.count)) c.loop-count.invariant

pub returns-clause-within : goal.returns-clause-within
returns-clause-within g c = omega (arith, c.loop-count-test.false, run_has_place c.args.pending.now c.args.first c.loop-count.count (omega (arith, c.loop-count.auto.count)) c.loop-count.invariant)
