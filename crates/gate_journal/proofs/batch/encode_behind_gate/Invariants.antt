use Rattle.std.proofs.Common.{◌≡◌, ◌++◌, length, take, All}
use Rattle.std.specs.List.{flat_map}
use Rattle.gate_journal.specs.Batch.{IsWhole, head_encoding, image_encoding}
use Rattle.gate_journal.proofs.batch.encode_behind_gate.Given as goal

-- the front, the count, and the images so far
abbrev pub invariant-loop-image : goal.invariant-loop-image
invariant-loop-image l = record {
  encoding : l.buffer.items ≡ head_encoding l.front (length l.images) ++ flat_map image_encoding (take l.image-index l.images);
  whole : All IsWhole (take l.image-index l.images);
}
