-- Where a front is noted, the disk has a copy of the machine's volume there: lemmas.
use Rattle.std.proofs.Common.{◌≡◌, ◌∙◌, ap, sym, subst, inl, inr, ℕ, ◌*◌, ◌≤◌, Bool, true, false, List, length, refl, arith}
use Rattle.std.specs.Prelude.{All, IfSome, Option, Some, slice_get}
use Rattle.std.proofs.lemmas.Bool.{cases_lt}
use Rattle.std.proofs.lemmas.Option.{slice_get_cases}
use Rattle.home_blocks.specs.Superblock.{Superblock}
use Rattle.local_store.specs.About.{About}
use Rattle.chain_steps.specs.Node.{NodeState, durable_of}
use Rattle.chain_steps.specs.Steps.{volume_at}
use Rattle.chain.specs.Chain.{bytes_of}
use Rattle.chain.specs.Member.{KeepsInside, Linked}
use Rattle.chain_model.specs.Chain.{StandsFor}
use Rattle.chain_model.specs.Laws.{IsOnEachDisk}
use Rattle.chain_model.specs.View.{View, is_in}
use Rattle.joining.specs.Copying.{HasNoted, IsCopyOf, IsLost, Seen}
use Rattle.joining.specs.Standing.{IsOfRecorded}
use Rattle.world.specs.World as worlds
use Rattle.world.specs.World.{Shows}
use Rattle.world_model.specs.Machine.{State, machine_volume}
use Rattle.candidate.specs.Copies.{IsCopying}
use Rattle.candidate.proofs.Shown.{shown_at}

-- the member at the place of a copying that is of a recorded one
pub its_member : {S D : Type 0} (world : worlds.Seen S) (c : Seen D) → IsOfRecorded world.chain c → (m : Linked S) × (slice_get world.chain.members c.at ≡ Some m) × (is_in world.chain.recorded m.node.state.place.slot m.node.state.incarnation ≡ true)
its_member world c is = elim (slice_get_cases world.chain.members c.at).1 [
  | inl (m, within, here, same) ↦
      (m, here, subst (λ (o : Option (Linked _)). IfSome o (λ x. is_in world.chain.recorded x.node.state.place.slot x.node.state.incarnation ≡ true)) here is.recorded)
  | inr (beyond, none) ↦ let within = is.is_for.member in absurd (omega (arith, beyond, within))
]

-- what wasn't lost, was noted between the durable front and what is known
between : {D : Type 0} (node : NodeState) (c : Seen D) → durable_of node ≤ node.known → ¬ IsLost node c → (durable_of node ≤ c.front) × (c.front ≤ node.known)
between node c behind kept = elim (cases_lt c.front (durable_of node)) [
  | inl early ↦ absurd (kept (λ same. omega (arith, same, early, behind), inr (inl early)))
  | inr from ↦ elim (cases_lt node.known c.front) [
    | inl late ↦ absurd (kept (λ same. omega (arith, same, late), inr (inr late)))
    | inr upto ↦ (omega (arith, from), omega (arith, upto))
  ]
]

not_true : (b : Bool) → ¬ (b ≡ true) → b ≡ false
not_true true never = absurd (never refl)
not_true false never = refl

module _ {S D : Type 0} (gives : D → List ℕ) (leaves : D → List ℕ → Type 0) (about : S → About) (keeps : S → List ℕ → Type 0) (may_leave_now : S → List ℕ → Type 0) (law : IsOnEachDisk) (world : worlds.Seen S) (v : View) (s : State)
    (shows : Shows about keeps may_leave_now world v) (stands : StandsFor (bytes_of world.chain) v s) (inside : All (KeepsInside (bytes_of world.chain)) world.chain.members) (incarnation : ℕ) where
  abbrev size : ℕ
  size = bytes_of world.chain

  pub noted_is : (premise : Type 0) → premise → (c d : Seen D) → IsOfRecorded world.chain c → IfSome (slice_get world.chain.members c.at) (λ m. HasNoted m.node.state c d)
      → IfSome (slice_get world.chain.members c.at) (λ m. d.broken ≡ false → premise → (volume : List ℕ) → length (volume_at volume m.node.state c.front) ≡ 4096 * length c.sender.marks
      → (sb : Superblock) → IsCopyOf gives leaves sb (volume_at volume m.node.state c.front) c → IsCopyOf gives leaves sb (volume_at volume m.node.state m.node.state.known) d)
      → (c.broken ≡ false → IsCopying gives leaves about keeps size s incarnation c) → d.broken ≡ false → IsCopying gives leaves about keeps size s incarnation d
  noted_is premise holds c d is notes copies had runs =
      let (m, here, recorded) = its_member world c is in
      let noted = subst (λ (o : Option (Linked S)). IfSome o (λ x. HasNoted x.node.state c d)) here notes in
      let copied = subst (λ (o : Option (Linked S)). IfSome o (λ x. d.broken ≡ false → premise → (volume : List ℕ) → length (volume_at volume x.node.state c.front) ≡ 4096 * length c.sender.marks
      → (sb : Superblock) → IsCopyOf gives leaves sb (volume_at volume x.node.state c.front) c → IsCopyOf gives leaves sb (volume_at volume x.node.state x.node.state.known) d)) here copies in
      let broke : ¬ (d.broken ≡ true) = λ broken. let clash : true ≡ false = sym broken ∙ runs in absurd (cc) in
      let ran : c.broken ≡ false = not_true c.broken (λ broken. broke (noted.broken.1 (inl broken))) in
      let has = shown_at about keeps may_leave_now law world v s shows stands inside c.at m here recorded in
      let (from, upto) = between m.node.state c has.is.behind (λ lost. broke (noted.broken.1 (inr lost))) in
      let was = had ran in
      let (taken, before, long) = has.at_front c.front from upto in
      let (taken_then, behind, long_then) = has.at_front m.node.state.known has.is.behind (omega arith) in
      let front : d.front ≡ m.node.state.known = ap (λ (x : Seen D). x.front) noted.are in
      record {
        sb = was.sb;
        its = was.its;
        blocks = was.blocks ∙ ap (λ (n : ℕ). 4096 * n) (sym noted.sent.blocks);
        taken = omega (arith, front, taken_then);
        long = ap (λ (n : ℕ). length (machine_volume size s n)) front ∙ long_then;
        copy = subst (λ (n : ℕ). IsCopyOf gives leaves was.sb (machine_volume size s n) d) (sym front)
            (subst (λ (volume : List ℕ). IsCopyOf gives leaves was.sb volume d) behind
            (copied runs holds has.shown.volume (ap (λ (l : List ℕ). length l) before ∙ long ∙ was.blocks) was.sb (subst (λ (volume : List ℕ). IsCopyOf gives leaves was.sb volume c) (sym before) was.copy)));
      }
