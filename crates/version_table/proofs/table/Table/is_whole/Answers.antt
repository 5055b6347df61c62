use Rattle.std.proofs.Common.{◌≡◌, ◌∙◌, ◌-◌, ap, arith, inl, inr, sym}
use Rattle.std.proofs.lemmas.Bool.{cases_lt}
use Rattle.version_table.specs.Whole.{has_whole}
use Rattle.version_table.specs.declared.kept.Kept.{Kept}
use Rattle.version_table.proofs.Whole.{none_is_whole, one_is_whole, untouched_is_not_whole}
use Rattle.version_table.proofs.table.Table.is_whole.Goals as goal

pub loop-number-preserved : goal.loop-number-preserved
loop-number-preserved c = let above = c.in-Some.ensures.above in let upto = c.in-Some.ensures.upto in record {
  from = omega arith;
  upto = omega arith;
  none = λ i d lt. elim (cases_lt i (c.loop-number.tested - c.args.self.now.forgotten)) [
    | inl before ↦ c.loop-number.invariant.none i d before
    | inr from ↦ elim (cases_lt i (c.in-Some.number - c.args.self.now.forgotten - 1)) [
      | inl between ↦ untouched_is_not_whole c.args.block _ (c.in-Some.ensures.first i d from between)
      | inr last ↦
          let here : i ≡ c.in-Some.number - c.args.self.now.forgotten - 1 = omega arith in
          rw here (ap (λ (k : Kept). has_whole c.args.block k.write) (sym (c.get.ensures.write d)) ∙ sym c.has_whole.ensures ∙ c.if-has_whole.false)
    ]
  ];
}

pub returns-then-has_whole : goal.returns-then-has_whole
returns-then-has_whole c =
    let above = c.in-Some.ensures.above in
    let upto = c.in-Some.ensures.upto in
    let from = c.loop-number.invariant.from in
    sym (one_is_whole c.args.self.now c.args.j c.args.block (c.in-Some.number - c.args.self.now.forgotten - 1) c.get.result.now (omega arith) (omega arith)
    (ap (λ (k : Kept). has_whole c.args.block k.write) (sym (c.get.ensures.write c.get.result.now)) ∙ sym c.has_whole.ensures ∙ c.if-has_whole.true))

pub returns : goal.returns
returns c =
    sym (none_is_whole c.args.self.now c.args.j c.args.block (λ i d lt. elim (cases_lt i (c.loop-number.tested - c.args.self.now.forgotten)) [
      | inl before ↦ c.loop-number.invariant.none i d before
      | inr from ↦ untouched_is_not_whole c.args.block _ (c.in_default.ensures.none i d from lt)
    ]))
