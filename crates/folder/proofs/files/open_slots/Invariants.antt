use Rattle.std.proofs.Common.{◌≡◌, length}
use Rattle.folder.specs.Files.{AreOpenings}
use Rattle.folder.proofs.files.open_slots.Given as goal

abbrev pub invariant-loop-number : goal.invariant-loop-number
invariant-loop-number g l = record {
  many : length l.openings.items ≡ l.number;
  each : AreOpenings 0 l.openings.items;
}
