use Rattle.std.proofs.Common.{◌≡◌, drop}
use Rattle.disk_model.specs.Content.{ranges_from}
use Rattle.disk_model.proofs.halving.is_marked.Given as goal

abbrev pub invariant-loop-mark : goal.invariant-loop-mark
invariant-loop-mark l = ranges_from l.mark-index (drop l.mark-index l.marks) ≡ ranges_from 0 l.marks
