use Rattle.std.proofs.Common.{◌≡◌, replicate}
use Rattle.std.specs.Prelude.{None}
use Rattle.local_store.proofs.Places.{shown}
use Rattle.local_store.proofs.pending.Pending.new.Given as goal

abbrev pub invariant-loop : goal.invariant-loop
invariant-loop l = shown l.images.items ≡ replicate l.counter None
