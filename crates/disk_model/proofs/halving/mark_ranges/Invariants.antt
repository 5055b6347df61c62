use Rattle.std.proofs.Common.{◌≡◌, ◌++◌, List, length, take}
use Rattle.disk_model.specs.Content.{AreMarked}
use Rattle.disk_model.specs.declared.content.Extent.{Extent}
use Rattle.disk_model.proofs.halving.mark_ranges.Given as goal

abbrev pub invariant-loop-range : goal.invariant-loop-range
invariant-loop-range l = record {
  size : length l.marks ≡ length l.initial.marks;
  marked : (before : List Extent) → AreMarked before l.initial.marks → AreMarked (before ++ take l.range-index l.ranges) l.marks;
}
