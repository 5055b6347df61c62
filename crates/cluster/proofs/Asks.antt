-- Behind a front that was gone on with, no token waits for one.
use Rattle.std.proofs.Common.{◌≡◌, ◌∷◌, [], ℕ, Bool, List, None, Some, Option, true, false, not, filter, ap, inl, inr, refl, subst, sym}
use Rattle.std.specs.Prelude.{◌⊎◌, IsTrue, ◌||◌, is_some, map, nat_lt, if◌then◌else◌}
use Rattle.std.specs.List.{list_any}
use Rattle.board.specs.Seats.{FoundFront}
use Rattle.local_store.specs.About.{About}
use Rattle.chain_steps.specs.Node.{NodeState, Out, last_of}
use Rattle.chain_steps.specs.Steps.{answer_at, answer_front, answer_front_by, stop}
use Rattle.chain_steps.specs.Waiting.{asks_front, bound, is_read, number_or}
use Rattle.chain_steps.specs.declared.cause.Cause.{Cause}
use Rattle.chain_steps.specs.declared.cause.Cause.TheVariants as causes
use Rattle.chain_steps.specs.declared.found.Found.{Found}
use Rattle.chain_steps.specs.declared.found.Found.TheVariants.{Looked}
use Rattle.chain_steps.specs.declared.waiting.Waiting.{Waiting}
use Rattle.chain_steps.specs.declared.waiting.Waiting.TheVariants.{Plain, Fua, Read, Flush}
use Rattle.chain_core.specs.Node.{Seen}
use Rattle.chain_core.specs.Reads.{HasBrokenOff, IsStepOver, IsStepTo}

has_number : (n : ℕ) (number : Option ℕ) → not (is_some (number_or n number)) ≡ false
has_number n None = refl
has_number n (Some m) = refl

none_ask : (n : ℕ) (ws : List Waiting) → list_any asks_front (map (bound n) (filter (λ w. not (is_read w)) ws)) ≡ false
none_ask n [] = refl
none_ask n (Plain ticket epoch number token ∷ ws) = none_ask n ws
none_ask n (Fua ticket epoch token ∷ ws) = none_ask n ws
none_ask n (Read offset len token ∷ ws) = none_ask n ws
none_ask n (Flush token ∷ ws) =
    subst (λ b. (b || list_any asks_front (map (bound n) (filter (λ w. not (is_read w)) ws))) ≡ false) (sym (has_number n token.number)) (none_ask n ws)

module _ (volume : List ℕ) (node : NodeState) (front : FoundFront) where
  at_front : (b : Bool) → (if b then stop causes.Disorder node else answer_at volume front.number node).node.stopped ≡ None
      → list_any asks_front (if b then stop causes.Disorder node else answer_at volume front.number node).node.waiting ≡ false
  at_front true runs = absurd (cc)
  at_front false runs = none_ask front.number node.waiting

  by_found : (found : Option Found) → found ≡ Some (Looked front) → (answer_front_by volume found node).node.stopped ≡ None
      → list_any asks_front (answer_front_by volume found node).node.waiting ≡ false
  by_found found is = subst (λ f. (answer_front_by volume f node).node.stopped ≡ None → list_any asks_front (answer_front_by volume f node).node.waiting ≡ false) (sym is)
      (at_front (nat_lt (last_of node) front.number))

-- where the front that was looked up is gone on with, no token of a member that runs waits for one
none_asks : (old new : NodeState) (front : FoundFront) → ((volume : List ℕ) → new ≡ (answer_front volume old).node) → old.found ≡ Some (Looked front)
    → new.stopped ≡ None → list_any asks_front new.waiting ≡ false
none_asks old new front steps kept runs =
    let is = steps [] in
    subst (λ n. list_any asks_front n.waiting ≡ false) (sym is) (by_found [] old front old.found kept (subst (λ n. n.stopped ≡ None) is runs))

-- none of one that stopped
stopped_asks_none : (cause : Cause) (old new : NodeState) → new ≡ (stop cause old).node → new.stopped ≡ None → ⊥
stopped_asks_none cause old new is runs = let stops : new.stopped ≡ Some cause = ap (λ n. n.stopped) is in absurd (cc)

-- so it is however the front was gone on with
pub answered_asks : {S R premise : Type 0} (keeps : List ℕ → Type 0) (about : S → About) (failures : S → ℕ) (old new : Seen S) (out : Out) (front : FoundFront)
    → (R × (IsStepOver premise keeps new.state out (λ volume. answer_front volume old.state) ⊎ IsStepTo new.state out (stop causes.Memory old.state))) ⊎ HasBrokenOff about failures old new out
    → old.state.found ≡ Some (Looked front) → new.state.stopped ≡ None → IsTrue (list_any asks_front new.state.waiting) → ⊥
answered_asks keeps about failures old new out front (inl (read, inl step)) kept runs asks = let none = none_asks old.state new.state front step.node kept runs in absurd (cc)
answered_asks keeps about failures old new out front (inl (read, inr step)) kept runs asks = stopped_asks_none causes.Memory old.state new.state step.node runs
answered_asks keeps about failures old new out front (inr broken) kept runs asks = stopped_asks_none (causes.Device broken.error) old.state new.state broken.node runs
