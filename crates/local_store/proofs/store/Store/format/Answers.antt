use Rattle.std.proofs.Common.{arith}
use Rattle.local_store.proofs.Refusals.{not_of_device}
use Rattle.local_store.proofs.store.Store.format.Goals as goal

pub returns-in-Err-clause-calm : goal.returns-in-Err-clause-calm
returns-in-Err-clause-calm g c = λ calm.
    not_of_device c.in-Err.refusal _ _ c.in-Err.ensures.cause.failed (omega (arith, calm, c.format.ensures.most, g.met.D.Disk.within_most c.format.new.disk))
