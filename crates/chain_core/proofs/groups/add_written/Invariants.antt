use Rattle.std.specs.Prelude.{not}
use Rattle.chain_steps.specs.Steps.{blanks}
use Rattle.chain_core.proofs.Grouping.{AreAddedIf}
use Rattle.chain_core.proofs.groups.add_written.Given as goal

abbrev pub invariant-loop-block : goal.invariant-loop-block
invariant-loop-block l = AreAddedIf (λ b. not (blanks b l.write)) l.initial.blocks l.blocks l.first l.block
