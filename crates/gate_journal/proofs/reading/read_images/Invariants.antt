use Rattle.std.proofs.Common.{◌≡◌, ◌+◌, ◌≤◌, drop, length, All}
use Rattle.disk_model.specs.Part.{inside}
use Rattle.gate_journal.specs.Batch.{EncodesImage, InTurn, IsWhole}
use Rattle.gate_journal.specs.Reading.{HoldsTo}
use Rattle.gate_journal.specs.Runs.{OnlyReads}
use Rattle.gate_journal.proofs.reading.read_images.Given as goal

-- the images so far
abbrev pub invariant-loop-wanted : goal.invariant-loop-wanted
invariant-loop-wanted g l = record {
  images : g.D.Disk.keeps_model → HoldsTo (InTurn EncodesImage) (drop l.at (inside l.part (g.D.Disk.gives l.fn.disk))) (inside l.part (g.D.Disk.gives l.fn.disk)) l.at l.place l.images.items;
  reads : g.D.Disk.keeps_model → OnlyReads g.D.Disk.gives g.D.Disk.may_leave_now g.D.Disk.moment g.D.Disk.may_have_left_since l.fn.disk l.disk;
  count : length l.images.items + l.wanted ≡ l.count;
  within : (l.at ≤ l.place) × (l.place + 1 ≤ l.part.len);
  whole : All IsWhole l.images.items;
  size : g.D.Disk.size l.disk ≡ g.D.Disk.size l.fn.disk;
  done : g.D.Disk.failures l.disk ≡ g.D.Disk.failures l.fn.disk;
  most : g.D.Disk.most_failures l.disk ≤ g.D.Disk.most_failures l.fn.disk;
}

abbrev pub decreases-loop-wanted : goal.decreases-loop-wanted
decreases-loop-wanted g l = l.wanted
