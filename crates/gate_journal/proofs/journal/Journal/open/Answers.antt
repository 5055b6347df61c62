use Rattle.std.proofs.Common.{◌∷◌, List, ℕ, ap, arith, drop, length, length-append, length-take, refl, subst, sym}
use Rattle.disk_model.specs.Disk.{Only}
use Rattle.disk_model.specs.Part.{inside, LeftInside}
use Rattle.gate_journal.specs.declared.refusal.Refusal.TheVariants.{Damaged}
use Rattle.gate_journal.specs.Batch.{IsDamaged}
use Rattle.gate_journal.specs.Journal.{still_settled}
use Rattle.gate_journal.specs.Runs.{reads_keep}
use Rattle.gate_journal.proofs.Lists.{same_refusal}
use Rattle.gate_journal.proofs.journal.Journal.open.Goals as goal

pub returns-then-is_empty-clause-damaged : goal.returns-then-is_empty-clause-damaged
returns-then-is_empty-clause-damaged g c = λ keeps is found holds.
    let part = c.args.part in
    omega (arith, ap length holds.is, length-append holds.bytes (holds.gate ∷ holds.rest), length-take part.len (drop part.start (g.D.Disk.gives c.args.disk.now)), c.if-is_empty.ensures.0 refl)

pub returns-in_err-batches-clause-damaged : goal.returns-in_err-batches-clause-damaged
returns-in_err-batches-clause-damaged g c = λ keeps is.
    let told = same_refusal c.from_residual-in_err-batches.result c.in_err-batches.field-0.0 Damaged c.from_residual-in_err-batches.ensures.1 is in
    subst (λ (b : List ℕ). IsDamaged c.args.blocks c.args.front (inside c.args.part b)) (c.sync.ensures.gives keeps) (c.in_err-batches.ensures.damaged keeps told)

pub returns-clause-settled : goal.returns-clause-settled
returns-clause-settled g c = λ keeps.
    let part = c.args.part in
    let (held, end) = c.in_ok-batches.ensures.held keeps in
    still_settled (reads_keep part c.sync.new.disk c.read_batches.new.disk (c.in_ok-batches.ensures.reads keeps))
    (record { holds = held; end = end; front = c.in_ok-batches.ensures.front; runs = refl; durable = subst (λ (b : List ℕ). Only (inside part b) (LeftInside part (g.D.Disk.may_leave_now c.sync.new.disk))) (sym (c.sync.ensures.gives keeps)) (c.in_ok-sync.ensures.inside keeps) })
