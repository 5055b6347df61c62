use Rattle.std.proofs.Common.{◌+◌, ◌≤◌, ◌++◌, ◌∷◌, [], OnOk, length, ap, subst, arith}
use Rattle.std.proofs.lemmas.Result.{on_ok_weaker}
use Rattle.gate_journal.proofs.Lists.{on_ok_both}
use Rattle.disk_model.specs.Disk.{LeavesOnly}
use Rattle.disk_model.specs.Frames.{touches_then}
use Rattle.disk_model.specs.Moments.{then_run}
use Rattle.disk_model.specs.Part.{inside, TouchesOnly}
use Rattle.gate_journal.specs.Batch.{HoldsOldOrNew}
use Rattle.disk_model.specs.declared.part.Part.{Part}
use Rattle.gate_journal.specs.Reading.{HoldsAt}
use Rattle.gate_journal.specs.Journal.{State, IsSettled, IsEncoded, appended}
use Rattle.gate_journal.proofs.Batches.{behind_gate, at_gate, settled_new}
use Rattle.gate_journal.proofs.Standing.{length-inside, stands_before}
use Rattle.gate_journal.proofs.journal.Journal.write_batch.Goals as goal

pub returns-in_err-write_durably-clause-any_moment : goal.returns-in_err-write_durably-clause-any_moment
returns-in_err-write_durably-clause-any_moment g c = λ keeps batches batch.
    subst (λ (s : State). IsSettled s batches (g.D.Disk.gives c.args.disk.now) (g.D.Disk.may_leave_now c.args.disk.now) → IsEncoded s batch c.args.body.now
    → LeavesOnly g.D.Disk.moment g.D.Disk.may_have_left_since c.args.disk.now c.write_durably.new.disk (λ c'. HoldsOldOrNew s.blocks s.before batches batch (inside s.part c'))) c.self.view_is
    (λ settled encoded. behind_gate _ batches batch c.args.body.now settled encoded c.args.disk.now c.write_durably.new.disk (length c.args.body.now) (c.write_durably.ensures.any_moment keeps))

pub returns-clause-any_moment : goal.returns-clause-any_moment
returns-clause-any_moment g c = λ keeps batches batch.
    let disk = g.D.Disk in
    let first = c.write_durably.new.disk in
    subst (λ (s : State). IsSettled s batches (g.D.Disk.gives c.args.disk.now) (g.D.Disk.may_leave_now c.args.disk.now) → IsEncoded s batch c.args.body.now
    → LeavesOnly g.D.Disk.moment g.D.Disk.may_have_left_since c.args.disk.now c.write_durably-2.new.disk (λ c'. HoldsOldOrNew s.blocks s.before batches batch (inside s.part c'))) c.self.view_is
    (λ settled encoded.
    then_run disk.moment disk.may_have_left_since c.args.disk.now first c.write_durably-2.new.disk _
    (behind_gate _ batches batch c.args.body.now settled encoded c.args.disk.now first (length c.args.body.now) (c.write_durably.ensures.any_moment keeps))
    (at_gate _ batches batch c.args.body.now settled encoded (disk.gives first) (c.in_ok-write_durably.ensures.gives keeps) first c.write_durably-2.new.disk (disk.may_leave_now first) (c.in_ok-write_durably.ensures.durable keeps) (c.write_durably-2.ensures.any_moment keeps)))

pub returns-clause-settled : goal.returns-clause-settled
returns-clause-settled g c = λ keeps batches batch.
    let disk = g.D.Disk in
    let first = c.write_durably.new.disk in
    let last = c.write_durably-2.new.disk in
    subst (λ (s : State). IsSettled s batches (g.D.Disk.gives c.args.disk.now) (g.D.Disk.may_leave_now c.args.disk.now) → IsEncoded s batch c.args.body.now
    → OnOk c.write_durably-2.result (IsSettled (appended s batch.front batch.images) (batches ++ batch ∷ []) (g.D.Disk.gives c.write_durably-2.new.disk) (g.D.Disk.may_leave_now c.write_durably-2.new.disk))) c.self.view_is
    (λ settled encoded. on_ok_both c.write_durably-2.result
    (settled_new _ batches batch c.args.body.now settled encoded (disk.gives first) (c.in_ok-write_durably.ensures.gives keeps) (disk.gives last) (disk.may_leave_now last))
    (c.write_durably-2.ensures.gives keeps) (c.write_durably-2.ensures.durable keeps))

pub returns-clause-frame : goal.returns-clause-frame
returns-clause-frame g c = λ keeps.
    subst (λ (s : State). TouchesOnly g.D.Disk.gives g.D.Disk.may_leave_now g.D.Disk.moment g.D.Disk.may_have_left_since s.part c.args.disk.now c.write_durably-2.new.disk) c.self.view_is
    (touches_then (c.write_durably.ensures.frame keeps) (c.write_durably-2.ensures.frame keeps))

pub returns-clause-bytes : goal.returns-clause-bytes
returns-clause-bytes g c = λ keeps.
    let disk = g.D.Disk in
    let i = c.self.inside in
    let body = c.args.body.now in
    let from = c.args.disk.now in
    let mid = c.write_durably.new.disk in
    let last = c.write_durably-2.new.disk in
    let part_is = ap (λ (s : State). s.part) c.self.view_is in
    let end_is = ap (λ (s : State). s.end) c.self.view_is in
    let within : i.part.start + i.part.len ≤ disk.size from = omega (arith, c.requires.on_disk, ap (λ (p : Part). p.start) part_is, ap (λ (p : Part). p.len) part_is) in
    let long = length-inside i.part (disk.gives from) (disk.size from) (g.met.D.Disk.gives_size keeps from) within in
    let fits : i.end + 1 + length body ≤ length (inside i.part (disk.gives from)) = omega (arith, long, c.requires.fits, end_is, ap (λ (p : Part). p.len) part_is) in
    subst (λ (s : State). OnOk c.write_durably-2.result (HoldsAt (inside s.part (disk.gives last)) s.end (s.end + 1 + length body) (1 ∷ body))) c.self.view_is
    (on_ok_weaker c.write_durably-2.result
    (stands_before (inside i.part (disk.gives from)) (inside i.part (disk.gives mid)) (inside i.part (disk.gives last)) i.end (1 ∷ []) body fits (c.in_ok-write_durably.ensures.gives keeps))
    (c.write_durably-2.ensures.gives keeps))
