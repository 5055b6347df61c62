use Rattle.version_table.proofs.MarkLemmas.{first_of_block, none_of_block, none_at_all}
use Rattle.version_table.proofs.marks.next_mark.Goals as goal

pub returns-in-Some-clause-first : goal.returns-in-Some-clause-first
returns-in-Some-clause-first c = first_of_block c.args.marks.now c.args.block c.args.from c.range.result (c.range.ensures.in_range tt) c.in-Some.field-0.now c.next.new.self c.in-Some.ensures.steps c.if-marked-block.true

pub returns-in_default-clause-none : goal.returns-in_default-clause-none
returns-in_default-clause-none c = none_of_block c.args.marks.now c.args.block c.args.from c.range.result (c.range.ensures.in_range tt) c.in-Some.field-0.now c.next.new.self c.in-Some.ensures.steps c.if-marked-block.false

pub returns-in_default-2-clause-none : goal.returns-in_default-2-clause-none
returns-in_default-2-clause-none c = none_at_all c.args.marks.now c.args.block c.args.from c.range.result (c.range.ensures.in_range tt) (rw c.in_default.is at c.next.ensures.steps).0
