use Rattle.std.proofs.Common.{subst, sym}
use Rattle.version_table.specs.Held.{IsClean}
use Rattle.chain_core.proofs.reading.is_run.Goals as goal

pub returns-then-are_blocks : goal.returns-then-are_blocks
returns-then-are_blocks c = (
  λ yes. (c.are_blocks.ensures.0 c.if-are_blocks.true, subst (IsClean c.args.table.now c.args.offset c.args.len) c.forgotten.ensures (c.is_clean.ensures.0 yes)),
  λ is. c.is_clean.ensures.1 (subst (IsClean c.args.table.now c.args.offset c.args.len) (sym c.forgotten.ensures) is.1),
)
