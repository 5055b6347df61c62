use Rattle.std.proofs.Common.{arith, ap, ◌∙◌, ◌-◌}
use Rattle.version_table.proofs.BlockLemmas.{value_stays, value_goes_on}
use Rattle.version_table.specs.declared.kept.Kept.{Kept}
use Rattle.version_table.proofs.table.Table.value_at.Goals as goal

pub loop-number-preserved : goal.loop-number-preserved
loop-number-preserved c = let above = c.in-Some.ensures.above in let upto = c.in-Some.ensures.upto in record {
  from = omega arith;
  upto = omega arith;
  patched_to = λ volume fit was.
      value_goes_on volume c.args.self.now.kept c.args.block (c.args.j - c.args.self.now.forgotten) (omega arith) fit (c.loop-number.done - c.args.self.now.forgotten)
      (c.in-Some.number - c.args.self.now.forgotten - 1) _ c.get.result.now.write _ _ (omega arith) (omega arith) (omega arith) c.in-Some.ensures.first (λ d. ap (λ (k : Kept). k.write) (c.get.ensures.write d))
      (c.loop-number.invariant.patched_to volume fit was) c.patch.ensures.patched;
}

pub returns : goal.returns
returns c = λ volume fit was.
    value_stays volume c.args.self.now.kept c.args.block (c.args.j - c.args.self.now.forgotten) (omega arith) fit (c.loop-number.done - c.args.self.now.forgotten) (c.args.j - c.args.self.now.forgotten)
    (omega arith) (omega arith) c.in_default.ensures.none ∙ c.loop-number.invariant.patched_to volume fit was
