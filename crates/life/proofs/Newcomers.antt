-- Who joins a world, as the model shows it: lemmas.
use Rattle.std.proofs.Common.{◌≡◌, List, refl, ℕ, subst}
use Rattle.std.specs.Prelude.{IsSomeAnd, None, Option, Some}
use Rattle.chain.specs.Joining.{IsStoreOf}
use Rattle.chain_model.specs.View.{Joiner, View}
use Rattle.local_store.specs.About.{About}
use Rattle.world.specs.World.{JoinsBy, Seen, Shows}

-- what is so of what is there, and is there
pub if_and : {A : Type 0} (o : Option A) (P : A → Type 0) → IsSomeAnd o P → (x : A) × (o ≡ Some x) × P x
if_and None P is = absurd is
if_and (Some x) P is = (x, refl, is)

-- whoever joins is shown so, with its store
pub joiner_shown : {S : Type 0} (about : S → About) (keeps : S → List ℕ → Type 0) (may_leave_now : S → List ℕ → Type 0) (w : Seen S) (v : View) (store : S) → Shows about keeps may_leave_now w v → w.joiner ≡ Some store
    → (j : Joiner) × (v.joiner ≡ Some j) × IsStoreOf about keeps store j
joiner_shown about keeps may_leave_now w v store shows is = if_and v.joiner (IsStoreOf about keeps store) (subst (λ o. JoinsBy about keeps o v.joiner) is shows.joins)
