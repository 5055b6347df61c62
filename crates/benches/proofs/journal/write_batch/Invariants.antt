use Rattle.std.proofs.Common.{◌≡◌}
use Rattle.disk_model.specs.Memory.{size_of}
use Rattle.benches.proofs.journal.write_batch.Given as goal

-- the disk keeps its size
abbrev pub invariant-loop-index : goal.invariant-loop-index
invariant-loop-index l = size_of l.disk ≡ size_of l.fn.disk
