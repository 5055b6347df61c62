use Rattle.std.proofs.Common.{◌≡◌, length, drop}
use Rattle.disk_model.specs.Content.{filled}
use Rattle.disk_model.proofs.content.fill.Given as goal

abbrev pub invariant-loop-range : goal.invariant-loop-range
invariant-loop-range l = record {
  filled : filled l.bytes.items (drop l.range-index l.ranges) ≡ filled l.initial.bytes.items l.ranges;
  size : length l.bytes.items ≡ length l.initial.bytes.items;
}
