use Rattle.std.proofs.Common.{arith}
use Rattle.version_table.proofs.MarkLemmas.{AreSet-one, AreSet-more, AreSet-none}
use Rattle.version_table.proofs.marks.unmark.Goals as goal

pub loop-block-init : goal.loop-block-init
loop-block-init c = AreSet-none _ _ _ _

pub loop-block-preserved : goal.loop-block-preserved
loop-block-preserved c = AreSet-more _ _ _ _ _ _ _ (omega arith) c.loop-block.invariant (AreSet-one _ _ _ _ _ c.remove.ensures.updates)
