-- Of which volume a disk on its way into a chain has a copy: that of the one volume's machine, at the front that was noted.
use Rattle.std.specs.Prelude.{◌≡◌, ℕ, suc, ◌*◌, ◌≤◌, false, List, length}
use Rattle.home_blocks.specs.Superblock.{Superblock}
use Rattle.local_store.specs.About.{About}
use Rattle.local_store.specs.Installer.{unfinished}
use Rattle.chain.specs.Chain.{Chained, bytes_of}
use Rattle.chain_model.specs.Chain.{StandsFor}
use Rattle.chain_model.specs.View.{View}
use Rattle.joining.specs.Copying.{IsCopyOf, Seen}
use Rattle.world.specs.World as worlds
use Rattle.world.specs.World.{HappensSo, Shows}
use Rattle.world_model.specs.Machine.{Move, RunsOn, State, machine_volume}
use Rattle.flush_barrier.specs.declared.session_id.SessionId.{SessionId}
use Rattle.candidate.specs.declared.candidate.Candidate.{Candidate}
use Rattle.candidate.specs.declared.candidate.Candidate.TheVariants.{Nobody, Copying, Whole, Counted, Refused}

module _ {S D : Type 0} (gives : D → List ℕ) (leaves : D → List ℕ → Type 0) (about : S → About) (keeps : S → List ℕ → Type 0) (size : ℕ) (s : State) (incarnation : ℕ) where
  -- it is given the volume at the noted front, which is taken: it has a copy of that, but for the blocks that are due
  pub record IsCopying (c : Seen D) : Type 0 where
    pub sb : Superblock
    pub its : sb.incarnation ≡ incarnation
    pub blocks : size ≡ 4096 * length c.sender.marks
    pub taken : c.front ≤ length s.taken
    pub long : length (machine_volume size s c.front) ≡ size
    pub copy : IsCopyOf gives leaves sb (machine_volume size s c.front) c

  -- it has the volume at its store's front, which is taken
  pub record IsCopied (store : S) : Type 0 where
    pub its : (about store).incarnation ≡ incarnation
    pub taken : (about store).front ≤ length s.taken
    pub keeping : keeps store (machine_volume size s (about store).front)

  -- the disk of this incarnation has what was to be given so far, unless its copying is broken
  abbrev pub HasCopy : Candidate S D → Type 0
  HasCopy Nobody = Unit {0}
  HasCopy (Copying c) = c.broken ≡ false → IsCopying c
  HasCopy (Whole w) = IsCopied w.store
  HasCopy Counted = Unit {0}
  HasCopy (Refused r) = Unit {0}

module _ {S D : Type 0} (gives : D → List ℕ) (leaves : D → List ℕ → Type 0) (about : S → About) (keeps : S → List ℕ → Type 0) (may_leave_now : S → List ℕ → Type 0) where
  -- Where the disk had a copy, it has one still: whatever state of the one volume the world stood for, and whichever it stands for then.
  abbrev pub KeepsCopy : (incarnation : ℕ) → Candidate S D → Candidate S D → worlds.Seen S → worlds.Seen S → Type 0
  KeepsCopy incarnation old new world after =
      (v w : View) (s t : State) (moves : List Move) → Shows about keeps may_leave_now world v → StandsFor (bytes_of world.chain) v s
      → RunsOn s moves t → Shows about keeps may_leave_now after w → StandsFor (bytes_of world.chain) w t
      → HasCopy gives leaves about keeps (bytes_of world.chain) s incarnation old → HasCopy gives leaves about keeps (bytes_of world.chain) t incarnation new

  -- It is of the one volume, whatever state of that the world stood for, where the disk had a copy.
  abbrev pub IsOfOneVolumeCopied : (fed handed : SessionId → List ℕ) → (incarnation : ℕ) → Candidate S D → worlds.Seen S → worlds.Seen S → Type 0
  IsOfOneVolumeCopied fed handed incarnation old world after =
      (v : View) (s : State) → Shows about keeps may_leave_now world v → StandsFor (bytes_of world.chain) v s
      → HasCopy gives leaves about keeps (bytes_of world.chain) s incarnation old → HappensSo about keeps may_leave_now world after fed handed v

-- no block was given yet: the disk will have this volume, at this slot, with the next epoch as its incarnation
abbrev pub BeginsAt : {S D : Type 0} → (D → List ℕ) → (D → List ℕ → Type 0) → (slot : ℕ) → Chained S → List ℕ → Candidate S D → Type 0
BeginsAt gives leaves slot chain volume (Copying c) = (c.sender.given ≡ 0) × IsCopyOf gives leaves (unfinished slot (suc chain.recorded.epoch) chain.geometry) volume c
BeginsAt gives leaves slot chain volume Nobody = ⊥
BeginsAt gives leaves slot chain volume (Whole w) = ⊥
BeginsAt gives leaves slot chain volume Counted = ⊥
BeginsAt gives leaves slot chain volume (Refused r) = ⊥
