use Rattle.std.proofs.Common.{Err, ap, arith, ◌∙◌}
use Rattle.local_store.specs.declared.refusal.Refusal.{Refusal}
use Rattle.local_store.proofs.Refusals.{not_of_device}
use Rattle.local_store.proofs.store.Store.open.Goals as goal

pub returns-in-Err-clause-not_a_volume : goal.returns-in-Err-clause-not_a_volume
returns-in-Err-clause-not_a_volume g c = λ keeps is. c.open.ensures.not_a_volume keeps (c.in-Err.is ∙ ap (λ (e : Refusal). Err e) is)

pub returns-in-Err-clause-unfinished : goal.returns-in-Err-clause-unfinished
returns-in-Err-clause-unfinished g c = λ keeps is. c.open.ensures.unfinished keeps (c.in-Err.is ∙ ap (λ (e : Refusal). Err e) is)

pub returns-in-Err-clause-calm : goal.returns-in-Err-clause-calm
returns-in-Err-clause-calm g c = λ calm.
    not_of_device c.in-Err.refusal _ _ c.in-Err.ensures.cause.failed (omega (arith, calm, c.open.ensures.most, g.met.D.Disk.within_most c.open.new.disk))
