use Rattle.version_table.proofs.TableLemmas.{AreStored-rest}
use Rattle.version_table.proofs.table.Table.forget_first.Goals as goal

pub invariant_of-self-2 : goal.invariant_of-self-2
invariant_of-self-2 c = AreStored-rest c.self.inside.front c.in-Some.kept c.pop_front.new.self.items c.self.inside.«data» c.self.inside.marks c.unmark.new.marks
    c.blocks_of-blocks.result.start c.blocks_of-blocks.result.end c.kept.result (rw c.in-Some.ensures.items at c.self.invariant) c.kept.ensures.kept
    (rw (c.offset.ensures, c.len.ensures) at c.blocks_of-blocks.ensures.reached) c.unmark.ensures
