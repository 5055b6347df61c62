-- What is begun, lent, and refused.
use Rattle.std.proofs.Common.{◌≡◌, ◌++◌, ◌⊎◌, List, Bool, true, false, None, inl, inr, refl}
use Rattle.std.specs.Prelude.{is_some}
use Rattle.flush_barrier.specs.Reply.{GivenReply}
use Rattle.local_store.specs.About.{About}
use Rattle.local_store.specs.Lending.{Lending}
use Rattle.chain_steps.specs.Node.{NodeState, Out, is_stopped}
use Rattle.chain_core.specs.Lending.{HasLent}
use Rattle.chain_core.specs.Node.{Seen}
use Rattle.chain_core.specs.declared.refusal.Refusal.{Refusal}
use Rattle.chain_core.specs.declared.refusal.Refusal.TheVariants.{Full, Stopped}
use Rattle.member.specs.Posted.{HasAnswered, Posted}
use Rattle.cluster.specs.Commits.{HasLentNext, IsDue}
use Rattle.cluster.specs.Gives.{HasGiven}

module _ {S L : Type 0} (BeginsSo : Seen S → Seen S → Out → Type 0) (about : S → About) (old between new : Posted S) (before middle after : List GivenReply) (loan : Lending L) (replies : List GivenReply)
    (lent : HasAnswered (λ o n out. HasLent about o n out loan) between new replies) (given : after ≡ middle ++ replies) where
  -- a commit that was begun, if one was due, and then lent
  pub lent_next : (was : Bool) → (was ≡ true → IsDue old × HasGiven (HasAnswered BeginsSo) old between before middle)
      → (was ≡ false → ¬ IsDue old × (between ≡ old) × (middle ≡ before)) → HasLentNext BeginsSo about loan old new before after
  lent_next true due idle = record {
    between = between;
    middle = middle;
    due = λ is. (due refl).1;
    idle = λ none. absurd (none (due refl).0);
    lent = record { replies = replies; calls = lent; given = given };
  }
  lent_next false due idle = record {
    between = between;
    middle = middle;
    due = λ is. absurd ((idle refl).0 is);
    idle = λ none. ((idle refl).1, (idle refl).2);
    lent = record { replies = replies; calls = lent; given = given };
  }

-- a member that runs isn't refused as one that has stopped
pub full_alone : (refusal : Refusal) → (refusal ≡ Full) ⊎ (refusal ≡ Stopped) → ¬ (refusal ≡ Stopped) → refusal ≡ Full
full_alone refusal (inl is) runs = is
full_alone refusal (inr is) runs = absurd (runs is)

pub runs_on : (node : NodeState) → node.stopped ≡ None → is_stopped node ≡ true → ⊥
runs_on node runs stops = let is : is_some node.stopped ≡ true = stops in absurd (cc)
