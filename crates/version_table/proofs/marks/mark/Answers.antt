use Rattle.std.proofs.Common.{arith, ◌∙◌, sym}
use Rattle.version_table.proofs.MarkLemmas.{AreSet-one, AreSet-more, at_ok}
use Rattle.version_table.proofs.marks.mark.Goals as goal

pub loop-block-preserved : goal.loop-block-preserved
loop-block-preserved c = AreSet-more _ _ _ _ _ _ _ (omega arith) c.loop-block.invariant (AreSet-one _ _ _ _ _ (at_ok c.insert.result (sym c.is_err.ensures.value ∙ c.if-is_err.false) c.insert.ensures.updates))
