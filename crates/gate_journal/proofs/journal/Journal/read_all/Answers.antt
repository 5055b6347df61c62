use Rattle.std.proofs.Common.{subst}
use Rattle.disk_model.specs.Part.{inside}
use Rattle.gate_journal.specs.declared.refusal.Refusal.TheVariants.{Damaged}
use Rattle.gate_journal.specs.Batch.{HoldsBatches, IsDamaged}
use Rattle.gate_journal.specs.Journal.{State}
use Rattle.gate_journal.proofs.Lists.{of_any_kind}
use Rattle.gate_journal.proofs.Readings.{one_reading}
use Rattle.gate_journal.proofs.journal.Journal.read_all.Goals as goal

pub returns-in-Err-clause-damaged : goal.returns-in-Err-clause-damaged
returns-in-Err-clause-damaged g c = λ keeps is.
    subst (λ (s : State). IsDamaged s.blocks s.before (inside s.part (g.D.Disk.gives c.args.disk.now))) c.self.view_is
    (c.in-Err.ensures.damaged keeps (of_any_kind c.in-Err.refusal Damaged is))

pub returns-in-Ok-clause-settled : goal.returns-in-Ok-clause-settled
returns-in-Ok-clause-settled g c = λ keeps batches settled.
    let s = c.args.self.now in
    let bytes = g.D.Disk.gives c.args.disk.now in
    let found = c.in-Ok.batches.items in
    one_reading s.blocks s.before found batches (inside s.part bytes)
    (subst (λ (j : State). HoldsBatches j.blocks j.before found (inside j.part bytes)) c.self.view_is (c.in-Ok.ensures.held keeps).0) settled.holds
