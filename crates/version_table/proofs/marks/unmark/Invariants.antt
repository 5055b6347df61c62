use Rattle.std.proofs.Common.{false}
use Rattle.version_table.specs.Marks.{AreSet}
use Rattle.version_table.proofs.marks.unmark.Given as goal

abbrev pub invariant-loop-block : goal.invariant-loop-block
invariant-loop-block l = AreSet l.initial.marks l.marks l.fn.blocks.start l.block l.number false
