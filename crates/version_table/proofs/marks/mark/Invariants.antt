use Rattle.std.proofs.Common.{true}
use Rattle.version_table.specs.Marks.{AreSet}
use Rattle.version_table.proofs.marks.mark.Given as goal

abbrev pub invariant-loop-block : goal.invariant-loop-block
invariant-loop-block l = AreSet l.initial.marks l.marks l.blocks.start l.block l.number true
