use Rattle.std.proofs.Common.{◌≡◌, ◌⊎◌, ℕ, List, Option, OnOk, ◌∙◌, ap, false, inl, subst, sym}
use Rattle.std.specs.Prelude.{IfSome}
use Rattle.disk_model.specs.Disk.{LeavesOnly}
use Rattle.disk_model.specs.Halves.{Beside, IsPast, rejoined}
use Rattle.disk_model.specs.Moments.{weaker}
use Rattle.disk_model.specs.Part.{inside}
use Rattle.gate_journal.specs.Batch.{Batch, HoldsOldOrNew}
use Rattle.gate_journal.specs.Journal as journal
use Rattle.gate_journal.specs.Journal.{IsSettled, behind_border}
use Rattle.gate_journal.specs.Refusal as journals
use Rattle.home_blocks.specs.Places.{border_of}
use Rattle.local_store.specs.Away.{Keeps}
use Rattle.local_store.specs.Lending.{HoldsHome, IsHomeKept}
use Rattle.local_store.specs.Meaning.{Means}
use Rattle.local_store.specs.Overlay.{with_images}
use Rattle.local_store.specs.Store.{State, geometry_of, meaning_after, meaning_in}
use Rattle.local_store.specs.declared.lent.Lent.{Lent}
use Rattle.local_store.specs.declared.refusal.Refusal.TheVariants.{Broken}
use Rattle.local_store.proofs.Away.{caused_back, first_beside, halves_at, runs_if, some_of, stored_here}
use Rattle.local_store.proofs.HomeHalf.{home_at_rest}
use Rattle.local_store.proofs.lending_store.LendingStore.commit_in_three.Goals as goal

pub returns-clause-kept : goal.returns-clause-kept
returns-clause-kept g c = λ keeps v kept.
    let lent = c.lend_commit.new.self in
    let back = c.finish_commit.new.self in
    let work = c.in_ok-work.work in
    let done = c.journal-done.result in
    let same = c.lend_commit.ensures.same in
    let batch = c.in_ok-work.ensures.batch in
    let Kept : Batch → Type 0 = λ x. Keeps back.lent (λ l. g.D.HalvedDisk.left_before l.past (g.D.HalvedDisk.until l.past)) (λ l j bs. IsSettled j bs (g.D.Log.Disk.gives l.was.value) (g.D.Log.Disk.may_leave_now l.was.value)) back.contents (with_images v x.images) (g.D.Disk.gives back.disk) (g.D.Disk.may_leave_now back.disk) in
    subst (λ (x : Batch). OnOk c.finish_commit.result (Kept x)) batch
    (c.finish_commit.ensures.kept keeps v (c.lend_commit.ensures.kept keeps v kept))

pub returns-clause-cause : goal.returns-clause-cause
returns-clause-cause g c =
    let s = c.args.self.now in
    let work = c.in_ok-work.work in
    let done = c.journal-done.result in
    let runs = subst (λ (t : State). t.broken ≡ false) (sym c.lend_commit.ensures.same) (runs_if s.contents.broken work Broken c.in_ok-work.ensures.broken.1) in
    caused_back done.outcome c.finish_commit.result (g.D.Disk.failures s.disk) (g.D.Disk.failures c.lend_commit.new.self.disk) (g.D.Log.Disk.failures done.log) (g.D.Disk.failures c.finish_commit.new.self.disk) c.finish_commit.ensures.failures
    c.in_ok-work.ensures.failures.0 (subst (λ (n : ℕ). journals.HasCause n (g.D.Log.Disk.failures done.log) done.outcome) c.in_ok-work.ensures.failures.1 c.journal-done.ensures.cause) (c.finish_commit.ensures.answer runs)

pub returns-in_err-work-clause-any_moment : goal.returns-in_err-work-clause-any_moment
returns-in_err-work-clause-any_moment g c = λ keeps v kept.
    let s = c.args.self.now in
    let was = stored_here s.lent (λ l. g.D.HalvedDisk.left_before l.past (g.D.HalvedDisk.until l.past)) (λ l j bs. IsSettled j bs (g.D.Log.Disk.gives l.was.value) (g.D.Log.Disk.may_leave_now l.was.value)) s.contents v (g.D.Disk.gives s.disk) (g.D.Disk.may_leave_now s.disk) c.requires.here kept in
    weaker g.D.Disk.moment g.D.Disk.may_have_left_since s.disk c.lend_commit.new.self.disk (Means (meaning_in s.contents v)) (λ d. Means (meaning_in s.contents v) d ⊎ Means (meaning_after s.contents v c.args.front c.args.images.now) d)
    (λ d means. inl means) (c.in_err-work.ensures.at_rest keeps v was)

pub returns-clause-any_moment : goal.returns-clause-any_moment
returns-clause-any_moment g c = λ keeps v kept.
    let s = c.args.self.now in
    let lent = c.lend_commit.new.self in
    let back = c.finish_commit.new.self in
    let work = c.in_ok-work.work in
    let done = c.journal-done.result in
    let d = g.D.Disk in
    let border = border_of (geometry_of s.contents) in
    let batch : Batch = record { front = c.args.front; images = c.args.images.now } in
    let was = stored_here s.lent (λ l. g.D.HalvedDisk.left_before l.past (g.D.HalvedDisk.until l.past)) (λ l j bs. IsSettled j bs (g.D.Log.Disk.gives l.was.value) (g.D.Log.Disk.may_leave_now l.was.value)) s.contents v (d.gives s.disk) (d.may_leave_now s.disk) c.requires.here kept in
    let log = c.in_ok-work.ensures.log keeps v was in
    let same = c.lend_commit.ensures.same in
    let some = some_of lent.lent c.in_ok-work.ensures.lent in
    let Logged : journal.State → Batch → List ℕ → Type 0 = λ j b x. HoldsOldOrNew j.blocks j.before was.batches b (inside j.part x) in
    let twin = behind_border s.contents.journal border in
    let log_run = subst (λ (j : journal.State). LeavesOnly g.D.Log.Disk.moment g.D.Log.Disk.may_have_left_since work.loan.log done.log (Logged j batch)) c.in_ok-work.ensures.journal
    (subst (λ (b : Batch). LeavesOnly g.D.Log.Disk.moment g.D.Log.Disk.may_have_left_since work.loan.log done.log (Logged work.loan.journal b)) c.in_ok-work.ensures.wrote (c.journal-done.ensures.any_moment (g.met.D.HalvedDisk.log_keeps keeps) was.batches log.0)) in
    let home_run = home_at_rest {moment = d.moment} {left_since = d.may_have_left_since} lent.disk (subst (λ (t : State). IsHomeKept t v was.batches (d.gives lent.disk) (d.may_leave_now lent.disk)) same (log.1 some.0 some.1).home) (g.met.D.Disk.only_now keeps lent.disk) in
    let past = subst (λ (o : Option (Lent g.row.D-Past.Denot g.row.D-Log.Denot)). IfSome o (λ l. IsPast (g.D.HalvedDisk.until l.past) (d.moment s.disk) (g.D.HalvedDisk.left_before l.past) (d.may_have_left_since s.disk))) some.1 (c.in_ok-work.ensures.past keeps) in
    let run = rejoined border (HoldsHome s.contents v was.batches) (Logged twin batch) back.disk
    (λ e left. first_beside s.contents v (d.gives s.disk) (d.may_leave_now s.disk) was batch e (g.met.D.Disk.only_now keeps s.disk e left))
    past (c.in_ok-work.ensures.begins keeps).0 (c.in_ok-work.ensures.begins keeps).1 home_run log_run
    ((lent.away some.0 some.1).cut ∙ ap (λ (t : State). border_of (geometry_of t)) same) (c.finish_commit.ensures.time keeps some.0 some.1) in
    weaker d.moment d.may_have_left_since s.disk back.disk (Beside border (HoldsHome s.contents v was.batches) (Logged twin batch)) (λ e. Means (meaning_in s.contents v) e ⊎ Means (meaning_after s.contents v c.args.front c.args.images.now) e)
    (λ e (home, behind). halves_at s.contents v was.batches batch e was.stands was.is_whole was.area.front home behind) run
