use Rattle.std.proofs.Common.{ap, arith}
use Rattle.flusher.proofs.Places.{run_has_place}
use Rattle.local_store.specs.Store.{State, geometry_of}
use Rattle.local_store.proofs.Places.{some_next}
use Rattle.local_store.proofs.contents.Contents.next_run.Goals as goal

pub returns-clause-within : goal.returns-clause-within
returns-clause-within c =
    some_next c.next_run.result (λ run is.
    omega (arith, run_has_place c.self.inside.pending run.first run.count (omega (arith, is.some)) is.whole, c.self.invariant.table, ap (λ (s : State). (geometry_of s).blocks) c.self.view_is))
    c.next_run.ensures.run
