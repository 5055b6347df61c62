use Rattle.std.proofs.Common.{◌≤◌, ◌-◌}
use Rattle.version_table.specs.Held.{writes_upto}
use Rattle.chain_core.specs.Groups.{AreCounted, set_size}
use Rattle.chain_core.proofs.groups.group_end.Given as goal

abbrev pub invariant-loop-end : goal.invariant-loop-end
invariant-loop-end l = record {
  from : l.table.forgotten ≤ l.end;
  upto : l.end ≤ l.limit;
  counted : AreCounted l.touched l.written (writes_upto l.table l.end);
  few : set_size l.touched l.written ≤ l.left;
}

abbrev pub decreases-loop-end : goal.decreases-loop-end
decreases-loop-end l = l.limit - l.end
