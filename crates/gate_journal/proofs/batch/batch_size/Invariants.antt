use Rattle.std.proofs.Common.{◌≡◌, ◌+◌, ◌*◌, ◌≤◌, take}
use Rattle.gate_journal.specs.Batch.{images_size}
use Rattle.gate_journal.proofs.batch.batch_size.Given as goal

-- the bytes of the header, and of the images so far
abbrev pub invariant-loop-image : goal.invariant-loop-image
invariant-loop-image l = record {
  size : l.size ≡ 13 + images_size (take l.image-index l.images);
  small : l.size ≤ 13 + 4100 * l.image-index;
}
