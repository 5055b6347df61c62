use Rattle.std.proofs.Common.{◌≡◌, ℕ, List, Option, None, refl, subst}
use Rattle.flusher.specs.Plan.{IsNext, IsPending, NonePending}
use Rattle.std.specs.Prelude.{IfSome, ◌↔◌}
use Rattle.gate_journal.specs.Image.{Image}
use Rattle.local_store.proofs.Places.{next_shown, none_shown, none_within, some_next}
use Rattle.local_store.proofs.pending.Pending.next.Goals as goal

pub returns-clause-next : goal.returns-clause-next
returns-clause-next c =
    subst (λ (l : List (Option (List ℕ))). IfSome c.next-block.result (IsNext c.args.plan.now (IsPending l))) c.self.view_is
    (some_next c.next-block.result (λ block is. next_shown c.self.inside.images.items c.args.plan.now block is)
    (subst (λ (l : List (Option Image)). IfSome c.next-block.result (IsNext c.args.plan.now (IsPending l))) c.deref.ensures.value c.next-block.ensures.next))

pub returns-clause-none : goal.returns-clause-none
returns-clause-none c =
    let below : (c.next-block.result ≡ None) ↔ NonePending (IsPending c.self.inside.images.items) = subst (λ (l : List (Option Image)). (c.next-block.result ≡ None) ↔ NonePending (IsPending l)) c.deref.ensures.value c.next-block.ensures.none in
    subst (λ (l : List (Option (List ℕ))). (c.next-block.result ≡ None) ↔ NonePending (IsPending l)) c.self.view_is
    (λ is. none_shown c.self.inside.images.items (below.0 is), λ empty. below.1 (none_within c.self.inside.images.items empty))

pub returns-then-self-clause-none : goal.returns-then-self-clause-none
returns-then-self-clause-none c = (
  λ _. subst (λ (l : List (Option (List ℕ))). NonePending (IsPending l)) c.self.view_is (none_shown c.self.inside.images.items (c.self.invariant c.if-self.true)),
  λ _. refl,
)
