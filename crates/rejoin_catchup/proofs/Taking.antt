-- What a piece does to the disk of a receiver.
use Rattle.std.proofs.Common.{◌≡◌, ◌⊎◌, inl, ℕ, List, refl, set, sym, subst, ◌∙◌, ap}
use Rattle.std.specs.Prelude.{IsSomeAnd, None, true, Option, Some, option_map}
use Rattle.std.proofs.lemmas.Option.{same_Some}
use Rattle.disk_model.specs.Disk.{LeavesOnly}
use Rattle.disk_model.specs.Moments.{started, weaker}
use Rattle.disk_model.specs.declared.disk.Disk.{Ghosts}
use Rattle.home_blocks.specs.Home as home
use Rattle.home_blocks.specs.Superblock.{Superblock}
use Rattle.local_store.specs.Installer.{HasGiven, IsInstalling, MeansNothing, finished_meaning}
use Rattle.local_store.specs.declared.installer.Installer.{Installer}
use Rattle.local_store.specs.Meaning.{Means}
use Rattle.rejoin_catchup.proofs.Courses.{HaveCome, block_behind}
use Rattle.rejoin_catchup.specs.Course.{course_behind}
use Rattle.rejoin_catchup.specs.Receiving.{HasTaken, Installation, IsTaking, MayBeLeft, Receiving, disk_in, disk_of, IsReceiving}
use Rattle.rejoin_catchup.specs.declared.course.Course.{Course}
use Rattle.rejoin_catchup.specs.declared.piece.Piece.{Piece}
use Rattle.rejoin_catchup.specs.declared.piece.Piece.TheVariants.{First, Again, End}

-- what contracts see of an installer, and of a receiver that drives one
abbrev pub seen : {D : Type 0} {disk : Ghosts D} → Installer D disk → Installation D
seen i = record { home = i.home; given = i.given; broken = i.broken; disk = i.disk }

abbrev pub driving : {D : Type 0} {disk : Ghosts D} → Course → Option D → Option (Installer D disk) → Receiving D
driving course left installer = record { course = course; installation = option_map seen installer; left = left }

-- what means nothing may be left whichever piece is taken
nothing_left : (sb : Superblock) (copy : List ℕ) (piece : Piece) (c : List ℕ) → MeansNothing c → MayBeLeft sb copy piece c
nothing_left sb copy (First block bytes) c nothing = nothing
nothing_left sb copy (Again block bytes) c nothing = nothing
nothing_left sb copy (End front) c nothing = inl nothing

-- one end has one front
one_front : (piece : Piece) (one other : ℕ) → piece ≡ End one → piece ≡ End other → one ≡ other
one_front piece one other is too = let same : End one ≡ End other = sym is ∙ too in cc

module _ {D : Type 0} (gives : D → List ℕ) (may_leave : D → List ℕ → Type 0) (moment : D → ℕ) (left_since : D → ℕ → List ℕ → Type 0) (sb : Superblock) (copy : List ℕ) (piece : Piece) where
  -- while no device call is made
  pub at_rest : ((disk : D) (c : List ℕ) → left_since disk (moment disk) c → may_leave disk c) → (installation : Option (Installation D)) (left : Option D) → IsSomeAnd installation (IsTaking gives may_leave sb copy)
      → (was : D) → disk_in installation left ≡ Some was → IsSomeAnd (disk_in installation left) (λ now. LeavesOnly moment left_since was now (MayBeLeft sb copy piece))
  at_rest only_now None left taken was here = absurd taken
  at_rest only_now (Some i) left taken was here =
      subst (λ (d : D). LeavesOnly moment left_since d i.disk (MayBeLeft sb copy piece)) (same_Some i.disk was here)
      (started moment left_since i.disk (MayBeLeft sb copy piece) (λ c may. nothing_left sb copy piece c (taken.installing.means_nothing c (only_now i.disk c may))))

  module _ (r : Receiving D) (course : Course) (i : Installation D) (left : Option D) (is : r ≡ record { course = course; installation = Some i; left = left }) (taken : HasTaken gives may_leave sb copy r) where
    -- what was taken, as the installation has it
    taking : IsTaking gives may_leave sb copy i
    taking = subst (HasTaken gives may_leave sb copy) is taken

    module _ (was : D) (here : disk_of r ≡ Some was) where
      -- it is the installation's disk
      same : i.disk ≡ was
      same = same_Some i.disk was (sym (ap disk_of is) ∙ here)

      -- while a block is written
      pub block_leaves : (now : D) → (IsInstalling i.home (gives i.disk) (may_leave i.disk) → LeavesOnly moment left_since i.disk now MeansNothing) → LeavesOnly moment left_since was now (MayBeLeft sb copy piece)
      block_leaves now leaves =
          subst (λ (d : D). LeavesOnly moment left_since d now (MayBeLeft sb copy piece)) same
          (weaker moment left_since i.disk now MeansNothing (MayBeLeft sb copy piece) (nothing_left sb copy piece) (leaves taking.installing))

      -- and at the end
      pub end_leaves : (front : ℕ) → piece ≡ End front → (now : D)
          → (IsInstalling i.home (gives i.disk) (may_leave i.disk) → (volume : List ℕ) → HasGiven i.home.superblock.geometry i.given volume (gives i.disk)
          → LeavesOnly moment left_since i.disk now (λ c. MeansNothing c ⊎ Means (finished_meaning i.home.superblock front volume) c))
          → LeavesOnly moment left_since was now (MayBeLeft sb copy piece)
      end_leaves front ends now leaves =
          subst (λ (p : Piece). LeavesOnly moment left_since was now (MayBeLeft sb copy p)) (sym ends)
          (subst (λ (s : Superblock). LeavesOnly moment left_since was now (MayBeLeft s copy (End front))) taking.superblock
          (subst (λ (d : D). LeavesOnly moment left_since d now (MayBeLeft i.home.superblock copy (End front))) same (leaves taking.installing copy taking.given)))

    -- what comes of the end
    pub end_gives : (Q : Superblock → ℕ → Type 0) (front other : ℕ) → piece ≡ End front → piece ≡ End other
        → (IsInstalling i.home (gives i.disk) (may_leave i.disk) → HasGiven i.home.superblock.geometry i.given copy (gives i.disk) → Q i.home.superblock front) → Q sb other
    end_gives Q front other ends too gave =
        subst (Q sb) (one_front piece front other ends too) (subst (λ (s : Superblock). Q s front) taking.superblock (gave taking.installing taking.given))

-- a receiver goes on while a block is written
still_receiving : {D : Type 0} (course after : Course) (i j : Installation D) (left : Option D) → IsReceiving (record { course = course; installation = Some i; left = left }) → j.home ≡ i.home → after.blocks ≡ course.blocks → HaveCome after j.given
    → IsReceiving (record { course = after; installation = Some j; left = left })
still_receiving {D = D} course after i j left was same_home blocks came = record {
  going = λ on. refl;
  one = λ there. was.one refl;
  as_many = λ k is. subst (λ (l : Installation D). l.home.superblock.geometry.blocks ≡ after.blocks) (same_Some j k is) (ap (λ (h : home.State). h.superblock.geometry.blocks) same_home ∙ was.as_many i refl ∙ sym blocks);
  came = λ k is. subst (λ (l : Installation D). HaveCome after l.given) (same_Some j k is) came;
}

module _ {D : Type 0} {disk : Ghosts D} (course : Course) (left : Option D) (installer : Option (Installer D disk)) (i j : Installer D disk) (drives : installer ≡ Some i) (was : IsReceiving (driving course left installer)) (same_home : j.home ≡ i.home) where
  -- as it was
  before : IsReceiving (driving course left (Some i))
  before = subst (λ o. IsReceiving (driving course left o)) drives was

  -- it was refused
  pub block_refused : j.given ≡ i.given → IsReceiving (driving course left (Some j))
  block_refused unmarked = still_receiving course course (seen i) (seen j) left before same_home refl (subst (HaveCome course) (sym unmarked) (before.came (seen i) refl))

  -- or it came
  pub block_received : (after : Course) (piece : Piece) (block : ℕ) (bytes : List ℕ) → (piece ≡ First block bytes) ⊎ (piece ≡ Again block bytes) → course_behind course piece ≡ Some after → j.given ≡ set i.given block true
      → IsReceiving (driving after left (Some j))
  block_received after piece block bytes is behind marks =
      let (many, _, came) = block_behind course after block bytes i.given (i.table ∙ before.as_many (seen i) refl) (before.came (seen i) refl) piece is behind in
      still_receiving course after (seen i) (seen j) left before same_home many (subst (HaveCome after) (sym marks) came)
