use Rattle.std.proofs.Common.{◌≤◌, ◌-◌}
use Rattle.version_table.specs.Held.{writes_upto}
use Rattle.chain_core.specs.Groups.{AreTouched}
use Rattle.chain_core.proofs.groups.touched_blocks.Given as goal

abbrev pub invariant-loop-done : goal.invariant-loop-done
invariant-loop-done l = record {
  from : l.table.forgotten ≤ l.done;
  upto : l.done ≤ l.end;
  touched : AreTouched l.blocks (writes_upto l.table l.done);
}

abbrev pub decreases-loop-done : goal.decreases-loop-done
decreases-loop-done l = l.end - l.done
