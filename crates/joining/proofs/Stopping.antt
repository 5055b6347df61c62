-- What a block that wasn't given leaves of a chain in which nothing is under way.
use Rattle.std.proofs.Common.{◌≡◌, ◌∙◌, ap, inl, inr, ℕ, List, refl, subst, sym}
use Rattle.std.specs.Prelude.{None, Some, slice_get, slice_set}
use Rattle.std.proofs.lemmas.Option.{same_Some}
use Rattle.chain.proofs.Cells.{set_there}
use Rattle.chain.specs.Chain.{Chained, Changes, RestsAt}
use Rattle.chain.specs.Holding.{StopsReading}
use Rattle.chain.specs.Member.{HasCalled, Linked}
use Rattle.chain_core.specs.Node as core
use Rattle.chain_model.specs.View.{is_in}
use Rattle.chain_steps.specs.Node.{NodeState, Out, is_stopped}
use Rattle.chain_steps.specs.Steps.{stop}
use Rattle.chain_steps.specs.declared.cause.Cause.{Cause}
use Rattle.chain_steps.specs.declared.cause.Cause.TheVariants.{Device, Memory}
use Rattle.local_store.specs.About.{About}
use Rattle.local_store.specs.Refusal.{IsCaused, IsOfTicking}
use Rattle.local_store.specs.declared.refusal.Refusal.{Refusal}
use Rattle.world.specs.Joining.{IsTailAt}
use Rattle.world.specs.World as worlds
use Rattle.joining.specs.Copying.{LeadsOn, Seen}
use Rattle.joining.specs.Giving.{RefusesGiving}
use Rattle.joining.specs.Rebuilding.{IsAtFront, IsQuiet, IsSteady, KeepStill}
use Rattle.joining.specs.Refusing.{HasTailStopped, RefusesFilling}
use Rattle.joining.specs.declared.refusal.NotGiven.{NotGiven}
use Rattle.joining.specs.declared.refusal.NotGiven.TheVariants.{Refused, Stopped}
use Rattle.joining.proofs.Leading.{leads_from}
use Rattle.joining.proofs.QuietSteps.{stopped_front}
use Rattle.joining.proofs.Steady.{all_there, member_steady, read_keeps, read_steady, steady_still, with_links}

-- the member at the place is the tail still, whatever else became of it
pub tail_stays : {S : Type 0} (c d : Chained S) (at : ℕ) (before after : Linked S) → slice_get c.members at ≡ Some before → d ≡ record c { members = slice_set c.members at after }
    → after.node.state.place.slot ≡ before.node.state.place.slot → after.node.state.incarnation ≡ before.node.state.incarnation → IsTailAt c at → IsTailAt d at
tail_stays c d at before after here are slot incarnation tail =
    let same = same_Some before tail.stands.member (sym here ∙ tail.stands.here) in
    subst (λ (x : Chained _). IsTailAt x at) (sym are) (record {
      slot = tail.slot;
      last = tail.last;
      stands = record {
        member = after;
        here = set_there c.members at before after here;
        slot_is = slot ∙ ap (λ (m : Linked _). m.node.state.place.slot) same ∙ tail.stands.slot_is;
        recorded = ap (λ (n : ℕ). is_in c.recorded tail.slot n) (incarnation ∙ ap (λ (m : Linked _). m.node.state.incarnation) same) ∙ tail.stands.recorded;
      };
    })

module _ {S : Type 0} (premise : Type 0) (about : S → About) (failures : S → ℕ) (keeps : S → List ℕ → Type 0) (moment : S → ℕ) (left_since : S → ℕ → List ℕ → Type 0) where
  -- it stopped by some cause
  by_cause : (old new : core.Seen S) (out : Out) → StopsReading premise about failures keeps moment left_since old new out → (cause : Cause) × (new.state ≡ (stop cause old.state).node)
  by_cause old new out (inl (read, step)) = (Memory, step.node)
  by_cause old new out (inr broken) = (Device broken.error, broken.node)

  module _ (c d : Chained S) (at : ℕ) (replies : List _) (did : Changes at c d (HasCalled (StopsReading premise about failures keeps moment left_since) replies)) where
    stopped : (cause : Cause) × (did.after.node.state ≡ (stop cause did.before.node.state).node)
    stopped = by_cause did.before.node did.after.node did.did.out did.did.did

    stopping_steady : IsQuiet c → IsSteady c d
    stopping_steady quiet =
        member_steady c d at did.after (with_links c d _ did.are) quiet
        (subst (IsAtFront c.words.front) (sym stopped.1) (stopped_front c.words.front did.before.node.state (all_there (λ m. IsAtFront c.words.front m.node.state) c.members at did.before quiet did.here) stopped.0))

    stopping_tail : IsTailAt c at → HasTailStopped d
    stopping_tail tail = inr (
      at,
      tail_stays c d at did.before did.after did.here did.are (ap (λ (n : NodeState). n.place.slot) stopped.1) (ap (λ (n : NodeState). n.incarnation) stopped.1) tail,
      record {
        member = did.after;
        here = subst (λ (x : Chained S). slice_get x.members at ≡ Some did.after) (sym did.are) (set_there c.members at did.before did.after did.here);
        stopped = ap (λ (n : NodeState). is_stopped n) stopped.1;
        same = refl;
      },
    )

  -- it rested, and nothing changed
  resting_steady : (c d : Chained S) (at : ℕ) → RestsAt at c d → IsQuiet c → IsSteady c d
  resting_steady c d at rests quiet = subst (IsSteady c) (sym rests.same) (steady_still c quiet)

  resting_tail : (c d : Chained S) (at : ℕ) → RestsAt at c d → IsTailAt c at → HasTailStopped d
  resting_tail c d at rests tail = subst HasTailStopped (sym rests.same) (inr (at, tail, record { member = rests.member; here = rests.here; stopped = rests.stopped; same = refl }))

  module _ {D : Type 0} (old new : Seen D) (world after : worlds.Seen S) where
    -- whatever the refusal is
    pub refused_steady : (e : NotGiven) → RefusesGiving premise about failures keeps moment left_since e old new world after → IsQuiet world.chain → IsSteady world.chain after.chain
    refused_steady (Stopped None) (same, moves) quiet = resting_steady world.chain after.chain old.at moves.did quiet
    refused_steady (Stopped (Some told)) (same, answers) quiet = stopping_steady world.chain after.chain old.at answers.replies answers.did quiet
    refused_steady (Refused refusal) (inl rests) quiet = subst (λ (w : worlds.Seen S). IsSteady world.chain w.chain) (sym rests.1.1.1) (steady_still world.chain quiet)
    refused_steady (Refused refusal) (inr (block, by)) quiet = read_steady premise about failures keeps moment left_since old.at block world after by.read quiet

    -- where the disk refused, each store keeps what it kept
    pub refused_keeps : (r : Refusal) → RefusesGiving premise about failures keeps moment left_since (Refused r) old new world after → premise → KeepStill keeps world.chain after.chain
    refused_keeps r (inl rests) holds = subst (λ (w : worlds.Seen S). KeepStill keeps world.chain w.chain) (sym rests.1.1.1) (λ volume all. all)
    refused_keeps r (inr (block, by)) holds = read_keeps premise about failures keeps moment left_since old.at block world after by.read holds

    -- why not all was given, from the first copying on
    pub refused_filling : (disk_failures : D → ℕ) (first : Seen D) (e : NotGiven) → RefusesGiving premise about failures keeps moment left_since e old new world after → IsTailAt world.chain old.at
        → ((r : Refusal) → e ≡ Refused r → IsOfTicking r) → ((r : Refusal) → e ≡ Refused r → LeadsOn (λ was now. IsCaused (disk_failures was) (disk_failures now) r) old new)
        → LeadsOn (λ was now. disk_failures now ≡ disk_failures was) first old → RefusesFilling disk_failures e first new after.chain
    refused_filling disk_failures first (Stopped None) (same, moves) tail told caused done = resting_tail world.chain after.chain old.at moves.did tail
    refused_filling disk_failures first (Stopped (Some told)) (same, answers) tail told_so caused done = stopping_tail world.chain after.chain old.at answers.replies answers.did tail
    refused_filling disk_failures first (Refused refusal) refused tail told caused done =
        (told refusal refl, leads_from disk_failures (λ n now. IsCaused n (disk_failures now) refusal) first old new done (caused refusal refl))
