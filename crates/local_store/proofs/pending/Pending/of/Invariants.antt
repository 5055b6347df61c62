use Rattle.std.proofs.Common.{◌≡◌, length, replicate, take}
use Rattle.std.specs.Prelude.{None}
use Rattle.local_store.specs.Pending.{with_all_pending}
use Rattle.local_store.proofs.pending.Pending.of.Given as goal

abbrev pub invariant-loop-batch : goal.invariant-loop-batch
invariant-loop-batch l = (l.pending ≡ with_all_pending (replicate l.fn.blocks None) (take l.batch-index l.fn.batches)) × (length l.pending ≡ l.fn.blocks)
