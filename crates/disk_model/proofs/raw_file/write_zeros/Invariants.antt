use Rattle.std.proofs.Common.{◌-◌, ◌≤◌}
use Rattle.disk_model.specs.RawFile.{IsZeroed}
use Rattle.disk_model.proofs.raw_file.write_zeros.Given as goal

abbrev pub invariant-loop-at : goal.invariant-loop-at
invariant-loop-at g l = record {
  within : l.at ≤ l.len;
  zeroed : g.F.RawFile.is_logged → IsZeroed 0 l.at (g.F.RawFile.asked l.initial.file) (g.F.RawFile.asked l.file);
}

abbrev pub decreases-loop-at : goal.decreases-loop-at
decreases-loop-at g l = l.len - l.at
