use Rattle.chain_core.proofs.Grouping.{AreAdded}
use Rattle.chain_core.proofs.groups.add_blocks.Given as goal

abbrev pub invariant-loop-block : goal.invariant-loop-block
invariant-loop-block l = AreAdded l.initial.blocks l.blocks l.first l.block
