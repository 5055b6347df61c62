-- A block that is given leaves a copy of the machine's volume one: lemmas.
use Rattle.std.proofs.Common.{◌≡◌, ◌∙◌, ap, sym, subst, inl, inr, ℕ, ◌*◌, ◌≤◌, false, List, length, refl, arith}
use Rattle.std.specs.Prelude.{All, IfSome, None, Option, Some, nat_lt, slice_get}
use Rattle.std.proofs.lemmas.Bool.{cases_Bool}
use Rattle.std.proofs.lemmas.List.{length-set}
use Rattle.std.proofs.lemmas.Option.{same_Some}
use Rattle.home_blocks.specs.Superblock.{Superblock}
use Rattle.local_store.specs.About.{About}
use Rattle.chain_steps.specs.Steps.{volume_at}
use Rattle.chain.specs.Chain.{bytes_of}
use Rattle.chain.specs.Member.{KeepsInside, Linked}
use Rattle.chain_model.specs.Chain.{StandsFor}
use Rattle.chain_model.specs.Laws.{IsOnEachDisk}
use Rattle.chain_model.specs.View.{View}
use Rattle.joining.specs.Copying.{IsCopyOf, Seen}
use Rattle.joining.specs.Giving.{GivesBlock, RefusesGiving}
use Rattle.joining.specs.declared.refusal.NotGiven.{NotGiven}
use Rattle.joining.specs.declared.refusal.NotGiven.TheVariants.{Stopped}
use Rattle.world.specs.declared.told.Told.{Told}
use Rattle.joining.specs.Standing.{IsNoted, IsOfRecorded}
use Rattle.rejoin_catchup.specs.Sending.{Sending, gave, least_marked}
use Rattle.world.specs.World as worlds
use Rattle.world.specs.World.{Shows}
use Rattle.world_model.specs.Machine.{State, machine_volume}
use Rattle.candidate.specs.Copies.{IsCopying}
use Rattle.candidate.proofs.Noted.{its_member}
use Rattle.candidate.proofs.Shown.{shown_at}

-- as many blocks may be marked
pub gave_blocks : (s : Sending) → length (gave s).marks ≡ length s.marks
gave_blocks s = elim (cases_Bool (nat_lt s.given (length s.marks))) [
  | inl some ↦ rw some refl
  | inr all ↦ rw all (length-set s.marks (least_marked s.marks) false)
]

-- where the member has stopped the copying is as it was
pub stopped_same : {S D : Type 0} (premise : Type 0) (about : S → About) (failures : S → ℕ) (keeps : S → List ℕ → Type 0) (moment : S → ℕ) (left_since : S → ℕ → List ℕ → Type 0) (e : NotGiven) (told : Option Told) (old new : Seen D) (world after : worlds.Seen S)
    → RefusesGiving premise about failures keeps moment left_since e old new world after → e ≡ Stopped told → new ≡ old
stopped_same premise about failures keeps moment left_since e told old new world after refused is =
    by told (subst (λ (x : NotGiven). RefusesGiving premise about failures keeps moment left_since x old new world after) is refused)
  where
    by : (told : Option Told) → RefusesGiving premise about failures keeps moment left_since (Stopped told) old new world after → new ≡ old
    by None refused = refused.0
    by (Some told) refused = refused.0

module _ {S D : Type 0} (gives : D → List ℕ) (leaves : D → List ℕ → Type 0) (about : S → About) (keeps : S → List ℕ → Type 0) (may_leave_now : S → List ℕ → Type 0) (law : IsOnEachDisk) (world : worlds.Seen S) (v : View) (s : State)
    (shows : Shows about keeps may_leave_now world v) (stands : StandsFor (bytes_of world.chain) v s) (inside : All (KeepsInside (bytes_of world.chain)) world.chain.members) (incarnation : ℕ) where
  pub given_is : (premise : Type 0) (failures : S → ℕ) (moment : S → ℕ) (left_since : S → ℕ → List ℕ → Type 0) (block : ℕ) (c d : Seen D) (after : worlds.Seen S) → IsOfRecorded world.chain c → IsNoted world.chain c
      → GivesBlock premise about failures keeps moment left_since block c d world after
      → IfSome (slice_get world.chain.members c.at) (λ m. (volume : List ℕ) → keeps m.node.store volume → length (volume_at volume m.node.state m.node.state.known) ≡ 4096 * length c.sender.marks
      → (sb : Superblock) → IsCopyOf gives leaves sb (volume_at volume m.node.state m.node.state.known) c → IsCopyOf gives leaves sb (volume_at volume m.node.state m.node.state.known) d)
      → IsCopying gives leaves about keeps (bytes_of world.chain) s incarnation c → IsCopying gives leaves about keeps (bytes_of world.chain) s incarnation d
  given_is premise failures moment left_since block c d after is noted gives_block copies was =
      let (m, here, recorded) = its_member world c is in
      let known : c.front ≡ m.node.state.known = subst (λ (o : Option (Linked S)). IfSome o (λ x. c.front ≡ x.node.state.known)) here noted in
      let copied = subst (λ (o : Option (Linked S)). IfSome o (λ x. (volume : List ℕ) → keeps x.node.store volume → length (volume_at volume x.node.state x.node.state.known) ≡ 4096 * length c.sender.marks
      → (sb : Superblock) → IsCopyOf gives leaves sb (volume_at volume x.node.state x.node.state.known) c → IsCopyOf gives leaves sb (volume_at volume x.node.state x.node.state.known) d)) here copies in
      let has = shown_at about keeps may_leave_now law world v s shows stands inside c.at m here recorded in
      let (bytes, moves) = gives_block.read in
      let same : moves.did.before ≡ m = same_Some moves.did.before m (sym moves.did.here ∙ here) in
      let runs : m.node.state.stopped ≡ None = ap (λ (x : Linked S). x.node.state.stopped) (sym same) ∙ moves.did.did.runs in
      let (taken, machine, long) = has.at_front m.node.state.known has.is.behind (omega arith) in
      let front : d.front ≡ c.front = ap (λ (x : Seen D). x.front) gives_block.given.are in
      let at_known : machine_volume (bytes_of world.chain) s c.front ≡ volume_at has.shown.volume m.node.state m.node.state.known = ap (machine_volume (bytes_of world.chain) s) known ∙ sym machine in
      let marks : length d.sender.marks ≡ length c.sender.marks = ap (λ (x : Seen D). length x.sender.marks) gives_block.given.are ∙ gave_blocks c.sender in
      record {
        sb = was.sb;
        its = was.its;
        blocks = was.blocks ∙ ap (λ (n : ℕ). 4096 * n) (sym marks);
        taken = subst (λ (n : ℕ). n ≤ length s.taken) (sym front) was.taken;
        long = ap (λ (n : ℕ). length (machine_volume (bytes_of world.chain) s n)) front ∙ was.long;
        copy = subst (λ (n : ℕ). IsCopyOf gives leaves was.sb (machine_volume (bytes_of world.chain) s n) d) (sym front)
            (subst (λ (volume : List ℕ). IsCopyOf gives leaves was.sb volume d) (sym at_known)
            (copied has.shown.volume (has.is.keeping runs) (ap (λ (l : List ℕ). length l) machine ∙ long ∙ was.blocks) was.sb (subst (λ (volume : List ℕ). IsCopyOf gives leaves was.sb volume c) at_known was.copy)));
      }
