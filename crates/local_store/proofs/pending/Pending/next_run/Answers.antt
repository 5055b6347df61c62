use Rattle.std.proofs.Common.{◌≡◌, ℕ, List, Option, None, refl, subst}
use Rattle.flusher.specs.Plan.{IsNext, IsPending, IsRun, NonePending}
use Rattle.std.specs.Prelude.{IfSome, ◌↔◌}
use Rattle.gate_journal.specs.Image.{Image}
use Rattle.local_store.proofs.Places.{next_shown, none_shown, none_within, run_shown, some_next}
use Rattle.local_store.proofs.pending.Pending.next_run.Goals as goal

pub returns-clause-next : goal.returns-clause-next
returns-clause-next c =
    subst (λ (l : List (Option (List ℕ))). IfSome c.next_run-run.result (λ run. IsNext c.args.plan.now (IsPending l) run.first)) c.self.view_is
    (some_next c.next_run-run.result (λ run is. next_shown c.self.inside.images.items c.args.plan.now run.first is)
    (subst (λ (l : List (Option Image)). IfSome c.next_run-run.result (λ run. IsNext c.args.plan.now (IsPending l) run.first)) c.deref.ensures.value c.next_run-run.ensures.next))

pub returns-clause-run : goal.returns-clause-run
returns-clause-run c =
    subst (λ (l : List (Option (List ℕ))). IfSome c.next_run-run.result (λ run. IsRun c.args.most (IsPending l) run.first run.count)) c.self.view_is
    (some_next c.next_run-run.result (λ run is. run_shown c.self.inside.images.items c.args.most run.first run.count is)
    (subst (λ (l : List (Option Image)). IfSome c.next_run-run.result (λ run. IsRun c.args.most (IsPending l) run.first run.count)) c.deref.ensures.value c.next_run-run.ensures.run))

pub returns-clause-none : goal.returns-clause-none
returns-clause-none c =
    let below : (c.next_run-run.result ≡ None) ↔ NonePending (IsPending c.self.inside.images.items) = subst (λ (l : List (Option Image)). (c.next_run-run.result ≡ None) ↔ NonePending (IsPending l)) c.deref.ensures.value c.next_run-run.ensures.none in
    subst (λ (l : List (Option (List ℕ))). (c.next_run-run.result ≡ None) ↔ NonePending (IsPending l)) c.self.view_is
    (λ is. none_shown c.self.inside.images.items (below.0 is), λ empty. below.1 (none_within c.self.inside.images.items empty))

pub returns-then-self-clause-none : goal.returns-then-self-clause-none
returns-then-self-clause-none c = (
  λ _. subst (λ (l : List (Option (List ℕ))). NonePending (IsPending l)) c.self.view_is (none_shown c.self.inside.images.items (c.self.invariant c.if-self.true)),
  λ _. refl,
)
