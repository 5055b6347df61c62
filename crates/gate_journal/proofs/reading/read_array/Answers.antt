use Rattle.std.proofs.Common.{ℕ, length, replicate}
use Rattle.std.proofs.lemmas.List.{length-replicate}
use Rattle.disk_model.specs.Part.{inside}
use Rattle.gate_journal.proofs.Standing.{stands_slice}
use Rattle.gate_journal.proofs.reading.read_array.Goals as goal

pub returns-clause-bytes : goal.returns-clause-bytes
returns-clause-bytes g c = λ keeps.
    stands_slice (inside c.args.part (g.D.Disk.gives c.args.disk.now)) c.args.at (length (replicate {A = ℕ} g.row.N 0)) g.row.N c.read.new.bytes
    (length-replicate {A = ℕ} g.row.N 0) (c.in_ok-read.ensures.read keeps)
