use Rattle.std.proofs.Common.{◌≡◌, ◌+◌, ◌-◌, ◌≤◌, max}
use Rattle.disk_model.specs.Part.{inside}
use Rattle.gate_journal.specs.declared.batch.TheConstants.{MAX_NUMBER}
use Rattle.gate_journal.specs.Batch.{AreBatches, last_front}
use Rattle.gate_journal.specs.Reading.{Begins}
use Rattle.gate_journal.specs.Runs.{OnlyReads}
use Rattle.gate_journal.proofs.walking.read_batches.Given as goal

-- batches stand up to the place
abbrev pub invariant-loop-batches : goal.invariant-loop-batches
invariant-loop-batches g l = record {
  begins : g.D.Disk.keeps_model → Begins l.blocks l.before l.batches.items (inside l.part (g.D.Disk.gives l.fn.disk)) l.place.end l.place.front;
  reads : g.D.Disk.keeps_model → OnlyReads g.D.Disk.gives g.D.Disk.may_leave_now g.D.Disk.moment g.D.Disk.may_have_left_since l.fn.disk l.disk;
  within : l.place.end + 1 ≤ l.part.len;
  are : AreBatches l.blocks l.before l.batches.items × (l.place.front ≡ last_front l.before l.batches.items);
  size : g.D.Disk.size l.disk ≡ g.D.Disk.size l.fn.disk;
  fronts : (l.before ≤ l.place.front) × (l.place.front ≤ max l.before MAX_NUMBER);
  done : g.D.Disk.failures l.disk ≡ g.D.Disk.failures l.fn.disk;
  most : g.D.Disk.most_failures l.disk ≤ g.D.Disk.most_failures l.fn.disk;
}

abbrev pub decreases-loop-batches : goal.decreases-loop-batches
decreases-loop-batches g l = l.part.len - l.place.end
