use Rattle.std.proofs.Common.{List, ℕ, subst}
use Rattle.std.specs.Prelude.{IfSome, OnErr}
use Rattle.gate_journal.specs.Batch.{Batch}
use Rattle.gate_journal.specs.Journal.{IsSettled, State}
use Rattle.local_store.specs.Away.{Keeps}
use Rattle.local_store.specs.declared.lent.Lent.{Lent}
use Rattle.member.proofs.Refused.{on_err}
use Rattle.chain_steps.specs.Steps.{volume_at}
use Rattle.member.proofs.lending.Member+LendingStore+D+J+J.finish_commit.Goals as goal

pub returns-clause-kept : goal.returns-clause-kept
returns-clause-kept g c = λ keeps v.
    let new = c.finish_commit.new.self in
    let before = λ (l : Lent g.row.D-Past.Denot g.row.D-Log.Denot). g.D.HalvedDisk.left_before l.past (g.D.HalvedDisk.until l.past) in
    subst (λ p. Keeps p.node.store.lent before (λ l j bs. IsSettled j bs (g.D.Log.Disk.gives l.was.value) (g.D.Log.Disk.may_leave_now l.was.value)) p.node.store.contents v (g.D.Disk.gives p.node.store.disk) (g.D.Disk.may_leave_now p.node.store.disk)
    → IfSome c.in_ok-out.receipt (λ receipt. Keeps new.store.lent before (λ l j bs. IsSettled j bs (g.D.Log.Disk.gives l.was.value) (g.D.Log.Disk.may_leave_now l.was.value)) new.store.contents (volume_at v p.node.state receipt.front) (g.D.Disk.gives new.store.disk) (g.D.Disk.may_leave_now new.store.disk)))
    c.self.view_is (c.in_ok-out.ensures.kept keeps v)

pub returns-in_err-out-clause-kept_old : goal.returns-in_err-out-clause-kept_old
returns-in_err-out-clause-kept_old g c = λ v.
    let new = c.finish_commit.new.self in
    let before = λ (l : Lent g.row.D-Past.Denot g.row.D-Log.Denot). g.D.HalvedDisk.left_before l.past (g.D.HalvedDisk.until l.past) in
    let had = λ (l : Lent g.row.D-Past.Denot g.row.D-Log.Denot) (j : State) (bs : List Batch). IsSettled j bs (g.D.Log.Disk.gives l.was.value) (g.D.Log.Disk.may_leave_now l.was.value) in
    subst (λ p. Keeps p.node.store.lent before had p.node.store.contents v (g.D.Disk.gives p.node.store.disk) (g.D.Disk.may_leave_now p.node.store.disk)
    → OnErr c.from_residual.result (Keeps new.store.lent before had new.store.contents v (g.D.Disk.gives new.store.disk) (g.D.Disk.may_leave_now new.store.disk)))
    c.self.view_is (λ keep. on_err c.from_residual.result (c.in_err-out.ensures.same.2 v keep))
