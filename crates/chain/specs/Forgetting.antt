-- What becomes of a chain when a member that was removed is forgotten.
use Rattle.std.specs.Prelude.{◌≡◌, ℕ, ◌<◌, Some, None, List, [], length, map, slice_get}
use Rattle.std.specs.List.{remove}
use Rattle.local_store.specs.About.{About}
use Rattle.chain_core.specs.Node.{IsIdle}
use Rattle.chain_steps.specs.Place.{incarnation_in}
use Rattle.world_model.specs.Event.{ClientEvent}
use Rattle.world_model.specs.Life.{all_events}
use Rattle.world_model.specs.Machine.{State}
use Rattle.chain_model.specs.Chain.{StandsFor}
use Rattle.chain_model.specs.Life.{Era, Happening}
use Rattle.chain_model.specs.View.{View}
use Rattle.chain.specs.Chain.{Chained, Shows, bytes_of}
use Rattle.chain.specs.Member.{Linked}
use Rattle.chain.specs.Recording.{AllTold}

-- The member at the place may be forgotten: nobody is recorded at its slot, nothing waits at it, others are there, and all that run were told
-- the recorded chain.
pub record MayForget {S : Type 0} (at : ℕ) (c : Chained S) : Type 0 where
  pub member : Linked S
  pub here : slice_get c.members at ≡ Some member
  pub out : incarnation_in c.recorded member.node.state.place.slot ≡ None
  pub idle : IsIdle member.node.state
  pub others : 1 < length c.members
  pub told : AllTold c

-- it is gone, whose store this was, and those behind it have moved up
pub record HasForgotten {S : Type 0} (at : ℕ) (store : S) (old new : Chained S) : Type 0 where
  pub member : Linked S
  pub here : slice_get old.members at ≡ Some member
  pub its : store ≡ member.node.store
  pub are : new ≡ record old { members = remove old.members at }

-- ---- of the one volume

-- Some such things happen, one after another, and clients see nothing of them: sessions keep what they kept, who joins does so still, and the
-- members that are left have their demands.
pub record GoesForgetting (size at : ℕ) (v w : View) : Type 0 where
  pub happenings : List Happening
  pub each : List (List ClientEvent)
  pub era : Era size v happenings w each
  pub all : all_events each ≡ []
  pub kept : w.kept ≡ v.kept
  pub joiner : w.joiner ≡ v.joiner
  pub demands : map (λ m. m.demands) w.members ≡ remove (map (λ m. m.demands) v.members) at

-- Whatever state of the one volume the chain stood for, where the member had no demands: what the call did can happen in such a chain.
abbrev pub IsOfOneVolumeForgetting : {S : Type 0} → (S → About) → (S → List ℕ → Type 0) → (S → List ℕ → Type 0) → ℕ → Chained S → Chained S → Type 0
IsOfOneVolumeForgetting about keeps may_leave_now at old new =
    (v : View) (s : State) → Shows about keeps may_leave_now old v → slice_get (map (λ m. m.demands) v.members) at ≡ Some [] → StandsFor (bytes_of old) v s
    → (w : View) × Shows about keeps may_leave_now new w × GoesForgetting (bytes_of old) at v w
