use Rattle.std.proofs.Common.{◌+◌, ◌≤◌, ◌∙◌, List, Option, arith, length, subst, sym}
use Rattle.flusher.proofs.Places.{run_has_place}
use Rattle.flusher.specs.Plan.{IsPending, IsRun}
use Rattle.local_store.specs.About.{IsWithoutRun}
use Rattle.local_store.specs.Pending.{AreCleared}
use Rattle.local_store.specs.Plain.{Plain}
use Rattle.local_store.proofs.Joined.{cleared_without}
use Rattle.local_store.proofs.Slices.{written_back}
use Rattle.local_store.specs.About.{meaning_with}
use Rattle.local_store.specs.Meaning.{Means}
use Rattle.local_store.specs.Plain.{means_plain, runs_plain}
use Rattle.local_store.proofs.plain.PlainStoreStoreLike.tick_run.Goals as goal

pub returns-clause-any_moment : goal.returns-clause-any_moment
returns-clause-any_moment c = λ model volume kept. runs_plain _ _ _ (λ x left. means_plain c.args.self.now volume x kept (subst (λ s. Means (meaning_with s.about s.volume) x) c.self.view_is left))

pub clear-requires : goal.clear-requires
clear-requires c =
    let run = c.in-Some.run' in
    let whole = c.in-Some.ensures.run in
    subst (λ (l : List (Option (Unit {0}))). run.first + run.count ≤ length l) (c.deref.ensures.value ∙ sym c.deref_mut.ensures.value)
    (run_has_place c.deref.result.now run.first run.count (omega (arith, whole.some)) whole.whole)

pub returns-clause-home : goal.returns-clause-home
returns-clause-home c =
    let run = c.in-Some.run' in
    let old = c.self.inside.pending.items in
    let back = written_back c.self.inside.pending.len c.clear.new.pending old (c.clear.ensures.table ∙ c.deref_mut.ensures.len) in
    let was = subst (λ (l : List (Option (Unit {0}))). IsRun c.args.most (IsPending l) run.first run.count) c.deref.ensures.value c.in-Some.ensures.run in
    let cleared = subst (λ (l : List (Option (Unit {0}))). AreCleared run.first run.count l c.clear.new.pending) c.deref_mut.ensures.value c.clear.ensures in
    subst (λ (l : List (Option (Unit {0}))). IsWithoutRun c.args.most run (IsPending c.args.self.now.pending) (IsPending l)) (sym back)
    (subst (λ (s : Plain). IsWithoutRun c.args.most run (IsPending s.pending) (IsPending c.clear.new.pending)) c.self.view_is (cleared_without c.args.most run old c.clear.new.pending was cleared))
