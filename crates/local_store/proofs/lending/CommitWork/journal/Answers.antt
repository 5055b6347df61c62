use Rattle.std.proofs.Common.{List, subst}
use Rattle.disk_model.specs.Disk.{LeavesOnly}
use Rattle.disk_model.specs.Part.{inside}
use Rattle.gate_journal.specs.Batch.{HoldsOldOrNew}
use Rattle.gate_journal.specs.Image.{Image}
use Rattle.gate_journal.specs.Journal.{IsSettled}
use Rattle.local_store.specs.Lending.{Lending}
use Rattle.local_store.proofs.lending.CommitWork.journal.Goals as goal

pub returns-clause-any_moment : goal.returns-clause-any_moment
returns-clause-any_moment g c = λ keeps batches.
    let Leaves : Lending g.row.L.Denot → Type 0 = λ loan. IsSettled loan.journal batches (g.L.Disk.gives loan.log) (g.L.Disk.may_leave_now loan.log)
    → LeavesOnly g.L.Disk.moment g.L.Disk.may_have_left_since loan.log c.append-outcome.new.disk (λ x. HoldsOldOrNew loan.journal.blocks loan.journal.before batches loan.batch (inside loan.journal.part x)) in
    let was = c.loan.inside in
    subst Leaves c.loan.view_is (λ settled.
    subst (λ (images : List Image). LeavesOnly g.L.Disk.moment g.L.Disk.may_have_left_since was.log c.append-outcome.new.disk
    (λ x. HoldsOldOrNew was.journal.blocks was.journal.before batches (record { front = was.front; images = images }) (inside was.journal.part x))) c.deref.ensures.value
    (c.append-outcome.ensures.any_moment keeps batches settled))
