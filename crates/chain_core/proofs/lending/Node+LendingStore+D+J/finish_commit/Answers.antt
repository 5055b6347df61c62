use Rattle.std.proofs.Common.{◌≡◌, ◌∙◌, ℕ, Err, List, None, Ok, Some, ap, arith, refl, subst, sym}
use Rattle.std.specs.Prelude.{IsTrue, MatchResult, Option, fold}
use Rattle.gate_journal.specs.Journal.{IsSettled}
use Rattle.gate_journal.specs.Receipt.{Receipt}
use Rattle.local_store.specs.About.{About, about_of, one_commit_more}
use Rattle.local_store.specs.Away.{Keeps, batch_of, lent_batch}
use Rattle.local_store.specs.KeptAway.{one_either, size_either}
use Rattle.local_store.specs.Overlay.{with_images}
use Rattle.local_store.specs.Refusal.{by_journal}
use Rattle.local_store.specs.declared.lent.Lent.{Lent}
use Rattle.version_table.specs.Held.{writes_upto}
use Rattle.volume.specs.Writes.{patched}
use Rattle.chain_steps.specs.Steps.{volume_at}
use Rattle.chain_core.proofs.ArmedSteps.{sound_armed}
use Rattle.chain_core.proofs.SoundCommits.{images_are, sound_ended, way_applied}
use Rattle.chain_core.proofs.SoundLending.{lent_commit, sound_home, told_done, told_refused}
use Rattle.chain_core.proofs.lending.Node+LendingStore+D+J.finish_commit.Goals as goal

pub invariant_of-self : goal.invariant_of-self
invariant_of-self g c =
    let store = c.is_log_of.new.self in
    sound_armed _ _ _ c.self.invariant _ _ c.is_log_of.ensures.about c.is_log_of.ensures.kept
    (λ premise one other kept too. one_either store.lent (λ l. g.D.HalvedDisk.left_before l.past (g.D.HalvedDisk.until l.past)) (λ l j bs. IsSettled j bs (g.D.Log.Disk.gives l.was.value) (g.D.Log.Disk.may_leave_now l.was.value)) store.contents one other
    (g.D.Disk.gives store.disk) (g.D.Disk.may_leave_now store.disk) kept too)

pub forget_to-requires-clause-kept : goal.forget_to-requires-clause-kept
forget_to-requires-clause-kept g c =
    let s = c.self.inside.store in
    let runs : c.self.inside.stopped ≡ None = grind (arith, c.if-is_some.false, c.is_some.ensures) in
    let mine : IsTrue c.is_log_of.result = grind (arith, c.if-not-is_log_of.false) in
    let here = lent_commit s.lent c.self.inside.commit (c.is_log_of.ensures.is.0 mine).0 (c.self.invariant.lent runs) in
    let front : c.front.result ≡ (batch_of s.lent).front = c.front.ensures.front ∙ ap (λ (r : Receipt). r.front) c.in-Ok.ensures.receipt ∙ ap (λ (o : Option (Lent g.row.D-Past.Denot g.row.D-Log.Denot)). (batch_of o).front) c.is_log_of.ensures.away in
    let way = c.self.invariant.under_way _ here in
    omega (arith, front, way.above)

pub forget_to-requires-clause-applied : goal.forget_to-requires-clause-applied
forget_to-requires-clause-applied g c =
    let s = c.self.inside.store in
    let runs : c.self.inside.stopped ≡ None = grind (arith, c.if-is_some.false, c.is_some.ensures) in
    let mine : IsTrue c.is_log_of.result = grind (arith, c.if-not-is_log_of.false) in
    let here = lent_commit s.lent c.self.inside.commit (c.is_log_of.ensures.is.0 mine).0 (c.self.invariant.lent runs) in
    let front : c.front.result ≡ (batch_of s.lent).front = c.front.ensures.front ∙ ap (λ (r : Receipt). r.front) c.in-Ok.ensures.receipt ∙ ap (λ (o : Option (Lent g.row.D-Past.Denot g.row.D-Log.Denot)). (batch_of o).front) c.is_log_of.ensures.away in
    let applied = way_applied _ _ _ c.self.invariant _ here in
    omega (arith, front, applied)

pub invariant_of-self-in-Ok : goal.invariant_of-self-in-Ok
invariant_of-self-in-Ok g c =
    let s = c.self.inside.store in
    let one = c.is_log_of.new.self in
    let new = c.finish_commit.new.self in
    let runs : c.self.inside.stopped ≡ None = grind (arith, c.if-is_some.false, c.is_some.ensures) in
    let mine : IsTrue c.is_log_of.result = grind (arith, c.if-not-is_log_of.false) in
    let here = lent_commit s.lent c.self.inside.commit (c.is_log_of.ensures.is.0 mine).0 (c.self.invariant.lent runs) in
    let front : c.front.result ≡ (batch_of s.lent).front = c.front.ensures.front ∙ ap (λ (r : Receipt). r.front) c.in-Ok.ensures.receipt ∙ ap (λ (o : Option (Lent g.row.D-Past.Denot g.row.D-Log.Denot)). (batch_of o).front) c.is_log_of.ensures.away in
    let about : About = record (about_of s.contents) { lent = lent_batch s.lent } in
    let Kept : List ℕ → Type 0 = λ v. Keeps new.lent (λ l. g.D.HalvedDisk.left_before l.past (g.D.HalvedDisk.until l.past)) (λ l j bs. IsSettled j bs (g.D.Log.Disk.gives l.was.value) (g.D.Log.Disk.may_leave_now l.was.value)) new.contents v (g.D.Disk.gives new.disk) (g.D.Disk.may_leave_now new.disk) in
    rw (c.forget_to.ensures, front) (sound_ended _ _ _ (sound_home _ _ _ c.self.invariant) _ here _ Kept refl
    (c.in-Ok.ensures.about
    ∙ ap (λ (a : About). record (one_commit_more a (batch_of one.lent).front (batch_of one.lent).images) { lent = None }) c.is_log_of.ensures.about
    ∙ ap (λ (o : Option (Lent g.row.D-Past.Denot g.row.D-Log.Denot)). record (one_commit_more about (batch_of o).front (batch_of o).images) { lent = None }) c.is_log_of.ensures.away)
    (λ premise v keep. subst (λ (o : Option (Lent g.row.D-Past.Denot g.row.D-Log.Denot)). Kept (with_images v (batch_of o).images)) c.is_log_of.ensures.away (c.in-Ok.ensures.kept premise v (c.is_log_of.ensures.kept v keep))))

pub returns-in-Ok-clause-kept : goal.returns-in-Ok-clause-kept
returns-in-Ok-clause-kept g c = λ premise v.
    let s = c.self.inside.store in
    let new = c.finish_commit.new.self in
    let runs : c.self.inside.stopped ≡ None = grind (arith, c.if-is_some.false, c.is_some.ensures) in
    let mine : IsTrue c.is_log_of.result = grind (arith, c.if-not-is_log_of.false) in
    let here = lent_commit s.lent c.self.inside.commit (c.is_log_of.ensures.is.0 mine).0 (c.self.invariant.lent runs) in
    let front : c.in-Ok.receipt.front ≡ (batch_of s.lent).front = ap (λ (r : Receipt). r.front) c.in-Ok.ensures.receipt ∙ ap (λ (o : Option (Lent g.row.D-Past.Denot g.row.D-Log.Denot)). (batch_of o).front) c.is_log_of.ensures.away in
    let before = λ (l : Lent g.row.D-Past.Denot g.row.D-Log.Denot). g.D.HalvedDisk.left_before l.past (g.D.HalvedDisk.until l.past) in
    let Kept : List ℕ → Type 0 = λ v. Keeps new.lent before (λ l j bs. IsSettled j bs (g.D.Log.Disk.gives l.was.value) (g.D.Log.Disk.may_leave_now l.was.value)) new.contents v (g.D.Disk.gives new.disk) (g.D.Disk.may_leave_now new.disk) in
    subst (λ t. Keeps t.store.lent before (λ l j bs. IsSettled j bs (g.D.Log.Disk.gives l.was.value) (g.D.Log.Disk.may_leave_now l.was.value)) t.store.contents v (g.D.Disk.gives t.store.disk) (g.D.Disk.may_leave_now t.store.disk) → Kept (volume_at v t.state c.in-Ok.receipt.front)) c.self.view_is (λ keep.
    subst (λ n. Kept (fold patched v (writes_upto c.self.inside.table n))) (sym front)
    (subst Kept (images_are _ _ _ c.self.invariant _ here v premise keep (size_either s.lent before (λ l j bs. IsSettled j bs (g.D.Log.Disk.gives l.was.value) (g.D.Log.Disk.may_leave_now l.was.value)) s.contents v (g.D.Disk.gives s.disk) (g.D.Disk.may_leave_now s.disk) keep))
    (subst (λ (o : Option (Lent g.row.D-Past.Denot g.row.D-Log.Denot)). Kept (with_images v (batch_of o).images)) c.is_log_of.ensures.away (c.in-Ok.ensures.kept premise v (c.is_log_of.ensures.kept v keep)))))

pub returns-in-Ok-clause-answer : goal.returns-in-Ok-clause-answer
returns-in-Ok-clause-answer g c = λ still.
    let runs : c.self.inside.stopped ≡ None = grind (arith, c.if-is_some.false, c.is_some.ensures) in
    let whole = ap (λ s. s.broken) c.is_log_of.ensures.contents ∙ (c.self.invariant.running runs).whole in
    let told = subst (λ d. MatchResult d.outcome (λ receipt. c.finish_commit.result ≡ Ok receipt) (λ refusal. c.finish_commit.result ≡ Err (by_journal refusal))) c.is_log_of.ensures.done (c.finish_commit.ensures.answer whole) in
    told_done _ c.finish_commit.result c.in-Ok.receipt _ _ told c.in-Ok.is refl

pub returns-in-Err-clause-answer : goal.returns-in-Err-clause-answer
returns-in-Err-clause-answer g c = λ still.
    let runs : c.self.inside.stopped ≡ None = grind (arith, c.if-is_some.false, c.is_some.ensures) in
    let whole = ap (λ s. s.broken) c.is_log_of.ensures.contents ∙ (c.self.invariant.running runs).whole in
    let told = subst (λ d. MatchResult d.outcome (λ receipt. c.finish_commit.result ≡ Ok receipt) (λ refusal. c.finish_commit.result ≡ Err (by_journal refusal))) c.is_log_of.ensures.done (c.finish_commit.ensures.answer whole) in
    told_refused _ c.finish_commit.result c.in-Err.refusal _ _ told c.in-Err.is refl (ap (λ n. n.state.stopped) c.stop_by.ensures.step.node ∙ ap Some c.cause_of-cause.ensures)
