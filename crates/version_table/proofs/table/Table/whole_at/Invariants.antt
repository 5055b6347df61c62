use Rattle.std.proofs.Common.{◌-◌, ◌<◌, ◌≤◌, get_or}
use Rattle.volume.specs.Writes.{IsTouched}
use Rattle.version_table.specs.declared.kept.Kept.{Kept}
use Rattle.version_table.proofs.table.Table.whole_at.Given as goal

abbrev pub invariant-loop-number : goal.invariant-loop-number
invariant-loop-number l = record {
  from : l.self.forgotten ≤ l.last;
  upto : l.last ≤ l.j;
  touched : l.self.forgotten < l.last → (d : Kept) → IsTouched (get_or l.self.kept (l.last - l.self.forgotten - 1) d).write l.block;
}

abbrev pub decreases-loop-number : goal.decreases-loop-number
decreases-loop-number l = l.j - l.last
