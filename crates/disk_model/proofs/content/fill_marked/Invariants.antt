use Rattle.std.proofs.Common.{◌≡◌, length, drop}
use Rattle.disk_model.specs.Content.{filled, ranges_from}
use Rattle.disk_model.proofs.content.fill_marked.Given as goal

abbrev pub invariant-loop-at : goal.invariant-loop-at
invariant-loop-at l = record {
  filled : filled l.bytes.items (ranges_from l.at (drop l.at l.marks)) ≡ filled l.initial.bytes.items (ranges_from 0 l.marks);
  size : length l.bytes.items ≡ length l.initial.bytes.items;
}
