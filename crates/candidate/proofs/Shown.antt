-- What a recorded member of a world has, by the machine's state that the world stands for: lemmas.
use Rattle.std.proofs.Common.{◌≡◌, ◌∙◌, ap, sym, subst, ℕ, ◌≤◌, Bool, true, List, length, refl}
use Rattle.std.specs.Prelude.{◌||◌, All, Some, slice_get}
use Rattle.std.proofs.lemmas.Option.{get_or_from_slice_get, slice_get_within}
use Rattle.version_table.specs.Held.{writes_upto}
use Rattle.volume.specs.Writes.{Fits}
use Rattle.chain_core.proofs.Images.{length-writes, upto_fits}
use Rattle.configurations.specs.Record.{Record}
use Rattle.local_store.specs.About.{About}
use Rattle.chain_steps.specs.Node.{NodeState, durable_of}
use Rattle.chain_steps.specs.Steps.{volume_at}
use Rattle.chain.specs.Chain.{bytes_of}
use Rattle.chain.specs.Member.{IsShown, KeepsInside, Linked}
use Rattle.chain.proofs.Cells.{place_of, zip_at}
use Rattle.chain_model.specs.Chain.{StandsFor}
use Rattle.chain_model.specs.Laws.{IsOnEachDisk, with_members}
use Rattle.chain_model.specs.View.{Member, View, is_in}
use Rattle.world.specs.World.{Seen, Shows}
use Rattle.world_model.specs.Machine.{State, machine_volume}

-- what holds of each holds of the one at a place
all_at : {A : Type 0} (P : A → Type 0) (xs : List A) (at : ℕ) (x : A) → All P xs → slice_get xs at ≡ Some x → P x
all_at P xs at x all here = subst P (get_or_from_slice_get xs at x x here) (all at x (slice_get_within xs at x here))

module _ {S : Type 0} (about : S → About) (keeps : S → List ℕ → Type 0) (may_leave_now : S → List ℕ → Type 0) (law : IsOnEachDisk) (world : Seen S) (v : View) (s : State)
    (shows : Shows about keeps may_leave_now world v) (stands : StandsFor (bytes_of world.chain) v s) (inside : All (KeepsInside (bytes_of world.chain)) world.chain.members) where
  -- it is shown so, and at each front from its durable one to what it knows its volume is the machine's
  pub record HasMachines (m : Linked S) : Type 0 where
    pub shown : Member
    pub is : IsShown about keeps may_leave_now (bytes_of world.chain) m shown
    pub at_front : (p : ℕ) → durable_of m.node.state ≤ p → p ≤ m.node.state.known → (p ≤ length s.taken) × (volume_at shown.volume m.node.state p ≡ machine_volume (bytes_of world.chain) s p) × (length (machine_volume (bytes_of world.chain) s p) ≡ bytes_of world.chain)

  may_be : (b : Bool) → b ≡ true → (other : Bool) → (b || other) ≡ true
  may_be b is other = subst (λ (x : Bool). (x || other) ≡ true) (sym is) refl

  pub shown_at : (at : ℕ) (m : Linked S) → slice_get world.chain.members at ≡ Some m → is_in world.chain.recorded m.node.state.place.slot m.node.state.incarnation ≡ true → HasMachines m
  shown_at at m here recorded =
      let (own, there, is) = zip_at (IsShown about keeps may_leave_now (bytes_of world.chain)) world.chain.members v.members at m shows.chain.members here in
      let place = place_of v.members at own there in
      let node : own.node ≡ m.node.state = ap (λ (x : Member). x.node) is.is in
      let known : is_in v.recorded own.node.place.slot own.node.incarnation ≡ true =
      subst (λ (n : NodeState). is_in v.recorded n.place.slot n.incarnation ≡ true) (sym node) (subst (λ (r : Record). is_in r m.node.state.place.slot m.node.state.incarnation ≡ true) (sym shows.chain.recorded) recorded) in
      record {
        shown = own;
        is = is;
        at_front = λ p from upto.
            let (owed, taken, same) = law (bytes_of world.chain) v place.above own place.below s p (subst (λ (ms : List Member). StandsFor (bytes_of world.chain) (with_members v ms) s) place.split stands)
            (may_be _ known _) (subst (λ (n : NodeState). n.table.forgotten ≤ p) (sym node) from) (subst (λ (n : NodeState). p ≤ n.known) (sym node) upto) in
            let same_at : volume_at own.volume m.node.state p ≡ machine_volume (bytes_of world.chain) s p = subst (λ (n : NodeState). volume_at own.volume n p ≡ machine_volume (bytes_of world.chain) s p) node same in
            let fits = all_at (KeepsInside (bytes_of world.chain)) world.chain.members at m inside here in
            let long : length (volume_at own.volume m.node.state p) ≡ length own.volume =
            length-writes own.volume (writes_upto m.node.state.table p) (subst (λ (n : ℕ). All (Fits n) (writes_upto m.node.state.table p)) (sym is.whole) (upto_fits (bytes_of world.chain) m.node.state.table p fits)) in
            (taken, same_at, ap (λ (l : List ℕ). length l) (sym same_at) ∙ long ∙ is.whole);
      }
