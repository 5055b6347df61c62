use Rattle.std.proofs.Common.{◌≡◌, ◌⊎◌, ℕ, Err, Result, ◌∙◌, ap, arith, subst, sym}
use Rattle.std.specs.Prelude.{Any, IfSome, ◌↔◌, Option, is_some}
use Rattle.disk_model.specs.Halves.{AreHalves, Rejoins}
use Rattle.flusher.specs.Plan.{IsPending}
use Rattle.gate_journal.specs.Batch.{Batch}
use Rattle.gate_journal.specs.Journal.{IsSettled}
use Rattle.gate_journal.specs.Receipt.{Receipt}
use Rattle.gate_journal.specs.declared.refusal.Refusal.{Refusal as JournalRefusal}
use Rattle.gate_journal.specs.declared.refusal.Refusal.TheVariants.{Memory}
use Rattle.local_store.specs.About.{about_of}
use Rattle.local_store.specs.Away.{IsCommitOf, Keeps, batch_in, batch_of, lent_batch, twin_of}
use Rattle.local_store.specs.Overlay.{with_images}
use Rattle.loans.specs.Sides.{Side}
use Rattle.local_store.specs.Lending.{Lending}
use Rattle.local_store.specs.Store.{IsStored, State, committed}
use Rattle.local_store.specs.declared.lent.Lent.{Lent}
use Rattle.local_store.proofs.Away.{back_at_new, back_at_old, done_nothing, done_settles, for_it_of, kept_here}
use Rattle.local_store.proofs.lending_store.LendingStore.finish_commit.Goals as goal

pub returns-in-Ok-clause-pends : goal.returns-in-Ok-clause-pends
returns-in-Ok-clause-pends g c = λ b.
    let batch : batch_of c.args.self.now.lent ≡ batch_in c.in-Some.lent = ap batch_of (sym c.in-Some.ensures.value) in
    subst (λ (x : Batch). IsPending c.add.new.self.pending b ↔ (IsPending c.args.self.now.contents.pending b ⊎ Any (λ image. image.block ≡ b) x.images)) (sym batch) (c.add.ensures.pends b)

pub returns-in-Ok-clause-kept : goal.returns-in-Ok-clause-kept
returns-in-Ok-clause-kept g c = λ keeps v kept.
    let s = c.args.self.now in
    let l = c.in-Some.lent in
    let lent = sym c.in-Some.ensures.value in
    let of = subst (λ (o : Option (Lent g.row.D-Past.Denot g.row.D-Log.Denot)). IfSome o (λ l. IsCommitOf s.contents l c.args.done)) lent c.requires.own in
    let batch : batch_of s.lent ≡ batch_in l = ap batch_of lent in
    let away = s.away l lent in
    let log = c.taken-log.result.0 in
    let same_log = ap (λ (p : g.row.D-Log.Denot × Result Receipt JournalRefusal × Side (Lending g.row.D-Log.Denot)). p.0) c.taken-log.ensures.parts in
    let ok = sym (ap (λ (p : g.row.D-Log.Denot × Result Receipt JournalRefusal × Side (Lending g.row.D-Log.Denot)). p.1) c.taken-log.ensures.parts) ∙ c.in-Ok.is in
    let (batches, over, had) = subst (λ (o : Option (Lent g.row.D-Past.Denot g.row.D-Log.Denot)). Keeps o (λ l. g.D.HalvedDisk.left_before l.past (g.D.HalvedDisk.until l.past))
    (λ l j bs. IsSettled j bs (g.D.Log.Disk.gives l.was.value) (g.D.Log.Disk.may_leave_now l.was.value)) s.contents v (g.D.Disk.gives s.disk) (g.D.Disk.may_leave_now s.disk)) lent kept in
    let settled = done_settles c.args.done l.was.value log (twin_of s.contents) (batch_of s.lent) batches c.in-Ok.receipt c.taken-log.ensures.done (g.met.D.HalvedDisk.log_keeps keeps) (of ∙ ap (λ (x : Batch). record { log = l.was.value; journal = twin_of s.contents; batch = x }) (sym batch)) (sym same_log) ok had in
    let halves = subst (λ (n : ℕ). AreHalves n (g.D.Disk.gives c.return_log.new.self) (g.D.Disk.gives s.disk) (g.D.Log.Disk.gives log) (g.D.Disk.may_leave_now c.return_log.new.self) (g.D.Disk.may_leave_now s.disk) (g.D.Log.Disk.may_leave_now log)) away.cut (c.return_log.ensures.halves keeps) in
    let now : c.add.new.self ≡ committed s.contents (batch_of s.lent).front (batch_of s.lent).images = c.add.ensures.ok ∙ ap (λ (x : Batch). committed s.contents x.front x.images) (sym batch) in
    kept_here c.take.new.self (λ l. g.D.HalvedDisk.left_before l.past (g.D.HalvedDisk.until l.past)) (λ l j bs. IsSettled j bs (g.D.Log.Disk.gives l.was.value) (g.D.Log.Disk.may_leave_now l.was.value)) c.add.new.self (with_images v (batch_of s.lent).images) (g.D.Disk.gives c.return_log.new.self) (g.D.Disk.may_leave_now c.return_log.new.self)
    (ap (λ (o : Option (Lent g.row.D-Past.Denot g.row.D-Log.Denot)). is_some o) c.take.ensures.after)
    (subst (λ (t : State). IsStored t (with_images v (batch_of s.lent).images) (g.D.Disk.gives c.return_log.new.self) (g.D.Disk.may_leave_now c.return_log.new.self)) (sym now)
    (back_at_new s.contents v halves (g.met.D.Disk.gives_size keeps s.disk ∙ away.home) batches (batch_of s.lent) over.home settled))

pub returns-in-Err-Memory-clause-kept_old : goal.returns-in-Err-Memory-clause-kept_old
returns-in-Err-Memory-clause-kept_old g c = λ keeps v kept told.
    let s = c.args.self.now in
    let l = c.in-Some.lent in
    let lent = sym c.in-Some.ensures.value in
    let of = subst (λ (o : Option (Lent g.row.D-Past.Denot g.row.D-Log.Denot)). IfSome o (λ l. IsCommitOf s.contents l c.args.done)) lent c.requires.own in
    let away = s.away l lent in
    let log = c.taken-log.result.0 in
    let same_log = ap (λ (p : g.row.D-Log.Denot × Result Receipt JournalRefusal × Side (Lending g.row.D-Log.Denot)). p.0) c.taken-log.ensures.parts in
    let memory : c.args.done.outcome ≡ Err Memory = grind (arith, c.taken-log.ensures.parts, c.in-Err-Memory.is, c.in-Err-Memory.field-0-is) in
    let (batches, over, had) = subst (λ (o : Option (Lent g.row.D-Past.Denot g.row.D-Log.Denot)). Keeps o (λ l. g.D.HalvedDisk.left_before l.past (g.D.HalvedDisk.until l.past))
    (λ l j bs. IsSettled j bs (g.D.Log.Disk.gives l.was.value) (g.D.Log.Disk.may_leave_now l.was.value)) s.contents v (g.D.Disk.gives s.disk) (g.D.Disk.may_leave_now s.disk)) lent kept in
    let settled = done_nothing c.args.done l.was.value log (twin_of s.contents) batches c.taken-log.ensures.done (ap (λ (x : Lending g.row.D-Log.Denot). x.log) of) (sym same_log) memory had in
    let halves = subst (λ (n : ℕ). AreHalves n (g.D.Disk.gives c.return_log.new.self) (g.D.Disk.gives s.disk) (g.D.Log.Disk.gives log) (g.D.Disk.may_leave_now c.return_log.new.self) (g.D.Disk.may_leave_now s.disk) (g.D.Log.Disk.may_leave_now log)) away.cut (c.return_log.ensures.halves keeps) in
    kept_here c.take.new.self (λ l. g.D.HalvedDisk.left_before l.past (g.D.HalvedDisk.until l.past)) (λ l j bs. IsSettled j bs (g.D.Log.Disk.gives l.was.value) (g.D.Log.Disk.may_leave_now l.was.value)) s.contents v (g.D.Disk.gives c.return_log.new.self) (g.D.Disk.may_leave_now c.return_log.new.self)
    (ap (λ (o : Option (Lent g.row.D-Past.Denot g.row.D-Log.Denot)). is_some o) c.take.ensures.after)
    (back_at_old s.contents v halves (g.met.D.Disk.gives_size keeps s.disk ∙ away.home) batches over.home settled)

pub returns-in-Ok-clause-about : goal.returns-in-Ok-clause-about
returns-in-Ok-clause-about g c =
    let s = c.args.self.now in
    let batch : batch_of s.lent ≡ batch_in c.in-Some.lent = ap batch_of (sym c.in-Some.ensures.value) in
    let now : c.add.new.self ≡ committed s.contents (batch_of s.lent).front (batch_of s.lent).images = c.add.ensures.ok ∙ ap (λ (x : Batch). committed s.contents x.front x.images) (sym batch) in
    ap (λ (t : State). record (about_of t) { lent = lent_batch c.take.new.self }) now
    ∙ ap (λ (o : Option (Lent g.row.D-Past.Denot g.row.D-Log.Denot)). record (about_of (committed s.contents (batch_of s.lent).front (batch_of s.lent).images)) { lent = lent_batch o }) c.take.ensures.after

pub returns-then-is_broken-clause-time : goal.returns-then-is_broken-clause-time
returns-then-is_broken-clause-time g c = λ keeps.
    let s = c.args.self.now in
    for_it_of s.lent c.in-Some.lent (λ l x. Rejoins (g.D.HalvedDisk.until l.past) (g.D.Disk.moment c.return_log.new.self) (g.D.HalvedDisk.left_before l.past) (g.D.Disk.may_have_left_since c.return_log.new.self) (g.D.HalvedDisk.cut_at l.past)
    (g.D.Disk.may_have_left_since s.disk 0) (g.D.Log.Disk.may_have_left_since x 0)) c.taken-log.result.0 c.args.done.log
    (sym c.in-Some.ensures.value) (ap (λ (p : g.row.D-Log.Denot × Result Receipt JournalRefusal × Side (Lending g.row.D-Log.Denot)). p.0) c.taken-log.ensures.parts) (c.return_log.ensures.time keeps)

pub returns-in-Ok-clause-time : goal.returns-in-Ok-clause-time
returns-in-Ok-clause-time g c = λ keeps.
    let s = c.args.self.now in
    for_it_of s.lent c.in-Some.lent (λ l x. Rejoins (g.D.HalvedDisk.until l.past) (g.D.Disk.moment c.return_log.new.self) (g.D.HalvedDisk.left_before l.past) (g.D.Disk.may_have_left_since c.return_log.new.self) (g.D.HalvedDisk.cut_at l.past)
    (g.D.Disk.may_have_left_since s.disk 0) (g.D.Log.Disk.may_have_left_since x 0)) c.taken-log.result.0 c.args.done.log
    (sym c.in-Some.ensures.value) (ap (λ (p : g.row.D-Log.Denot × Result Receipt JournalRefusal × Side (Lending g.row.D-Log.Denot)). p.0) c.taken-log.ensures.parts) (c.return_log.ensures.time keeps)

pub returns-in-Err-Memory-clause-time : goal.returns-in-Err-Memory-clause-time
returns-in-Err-Memory-clause-time g c = λ keeps.
    let s = c.args.self.now in
    for_it_of s.lent c.in-Some.lent (λ l x. Rejoins (g.D.HalvedDisk.until l.past) (g.D.Disk.moment c.return_log.new.self) (g.D.HalvedDisk.left_before l.past) (g.D.Disk.may_have_left_since c.return_log.new.self) (g.D.HalvedDisk.cut_at l.past)
    (g.D.Disk.may_have_left_since s.disk 0) (g.D.Log.Disk.may_have_left_since x 0)) c.taken-log.result.0 c.args.done.log
    (sym c.in-Some.ensures.value) (ap (λ (p : g.row.D-Log.Denot × Result Receipt JournalRefusal × Side (Lending g.row.D-Log.Denot)). p.0) c.taken-log.ensures.parts) (c.return_log.ensures.time keeps)

pub returns-clause-time : goal.returns-clause-time
returns-clause-time g c = λ keeps.
    let s = c.args.self.now in
    for_it_of s.lent c.in-Some.lent (λ l x. Rejoins (g.D.HalvedDisk.until l.past) (g.D.Disk.moment c.return_log.new.self) (g.D.HalvedDisk.left_before l.past) (g.D.Disk.may_have_left_since c.return_log.new.self) (g.D.HalvedDisk.cut_at l.past)
    (g.D.Disk.may_have_left_since s.disk 0) (g.D.Log.Disk.may_have_left_since x 0)) c.taken-log.result.0 c.args.done.log
    (sym c.in-Some.ensures.value) (ap (λ (p : g.row.D-Log.Denot × Result Receipt JournalRefusal × Side (Lending g.row.D-Log.Denot)). p.0) c.taken-log.ensures.parts) (c.return_log.ensures.time keeps)
