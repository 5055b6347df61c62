use Rattle.std.proofs.Common.{ℕ, ◌<◌}
use Rattle.std.specs.Prelude.{All}
use Rattle.volume.specs.Writes.{IsTouched}
use Rattle.version_table.specs.Held.{kept_after}
use Rattle.version_table.specs.Marks.{ReachesBlock}
use Rattle.version_table.specs.declared.kept.Kept.{Kept}
use Rattle.version_table.proofs.table.Table.is_clean.Given as goal

abbrev pub invariant-loop-block : goal.invariant-loop-block
invariant-loop-block l = (block : ℕ) → ReachesBlock l.offset l.len block → block < l.block → All (λ (k : Kept). ¬ IsTouched k.write block) (kept_after l.self l.k)
