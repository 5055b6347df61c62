use Rattle.std.proofs.Common.{◌≡◌, ℕ, ◌-◌, ◌<◌, ◌≤◌, false, get_or}
use Rattle.version_table.specs.Whole.{has_whole}
use Rattle.version_table.specs.declared.kept.Kept.{Kept}
use Rattle.version_table.proofs.table.Table.is_whole.Given as goal

abbrev pub invariant-loop-number : goal.invariant-loop-number
invariant-loop-number l = record {
  from : l.self.forgotten ≤ l.tested;
  upto : l.tested ≤ l.j;
  none : (i : ℕ) (d : Kept) → i < l.tested - l.self.forgotten → has_whole l.block (get_or l.self.kept i d).write ≡ false;
}

abbrev pub decreases-loop-number : goal.decreases-loop-number
decreases-loop-number l = l.j - l.tested
