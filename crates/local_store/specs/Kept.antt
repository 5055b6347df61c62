-- What a store keeps: lemmas for what is said of a store.
use Rattle.std.specs.Prelude.{◌≡◌, ℕ, ◌<◌, Option, Some, None, List, refl}
use Rattle.std.proofs.Common.{ap, subst, sym, ◌∙◌}
use Rattle.disk_model.specs.Disk.{LeavesOnly}
use Rattle.disk_model.specs.Frames.{left_inside}
use Rattle.disk_model.specs.Part.{inside}
use Rattle.gate_journal.specs.Batch.{Batch, HoldsBatches, last_front}
use Rattle.home_blocks.specs.Home.{HoldsSuperblock, settled_leaves}
use Rattle.home_blocks.specs.Places.{home_part, inside-area}
use Rattle.home_blocks.specs.declared.progress.Progress.TheVariants.{Whole}
use Rattle.local_store.specs.Meaning.{Means, Meaning, meaning_of}
use Rattle.local_store.specs.Overlay.{with_batches}
use Rattle.local_store.specs.Pending.{AreHomeOrPending, held}
use Rattle.local_store.specs.Store.{State, IsOfSuperblock, IsStored, geometry_of, meaning_in}
use Rattle.volume.specs.Volumes.{same_from_blocks}
use Rattle.volume.specs.Writes.{block_of}

-- a superblock, batches and a home region come to a meaning
pub parts_mean : (store : State) (v : List ℕ) (batches : List Batch) (c : List ℕ) → IsOfSuperblock store → store.home.superblock.progress ≡ Whole → HoldsSuperblock store.home.superblock c
    → HoldsBatches store.journal.blocks store.journal.before batches (inside store.journal.part c) → with_batches (inside (home_part (geometry_of store)) c) batches ≡ v
    → Means (meaning_of store.home.superblock batches v) c
parts_mean store v batches c of whole holds area region = record {
  superblock = store.home.superblock;
  holds = holds;
  is_whole = whole;
  batches = batches;
  area = subst (HoldsBatches (geometry_of store).blocks store.home.superblock.front batches) (inside-area (geometry_of store) store.home.superblock.current store.journal.part c of.part)
      (subst (λ (n : ℕ). HoldsBatches (geometry_of store).blocks n batches (inside store.journal.part c)) of.before
      (subst (λ (n : ℕ). HoldsBatches n store.journal.before batches (inside store.journal.part c)) of.blocks area));
  is = ap (meaning_of store.home.superblock batches) (sym region);
}

-- the meaning of a store that keeps such batches
pub meaning_is : (store : State) (v : List ℕ) (batches : List Batch) → IsOfSuperblock store → store.journal.front ≡ last_front store.journal.before batches → meaning_of store.home.superblock batches v ≡ meaning_in store v
meaning_is store v batches of front =
    ap (λ (n : ℕ). record { slot = store.home.superblock.slot; incarnation = store.home.superblock.incarnation; geometry = geometry_of store; front = n; volume = v }) (sym (front ∙ ap (λ (n : ℕ). last_front n batches) of.before))

pub old_meaning : (store : State) (v : List ℕ) (batches : List Batch) → IsOfSuperblock store → store.home.superblock.progress ≡ Whole → store.journal.front ≡ last_front store.journal.before batches → (c : List ℕ)
    → HoldsSuperblock store.home.superblock c → HoldsBatches store.journal.blocks store.journal.before batches (inside store.journal.part c) → with_batches (inside (home_part (geometry_of store)) c) batches ≡ v → Means (meaning_in store v) c
old_meaning store v batches of whole front c holds area region = subst (λ (m : Meaning). Means m c) (meaning_is store v batches of front) (parts_mean store v batches c of whole holds area region)

-- whatever may be left of a store's disk means what the store keeps
pub stored_means : {store : State} {v gives : List ℕ} {left : List ℕ → Type 0} → IsOfSuperblock store → IsStored store v gives left → (c : List ℕ) → left c → Means (meaning_in store v) c
stored_means {store} {v} {gives} {left} of was c may =
    let area = subst (HoldsBatches store.journal.blocks store.journal.before was.batches) (sym (was.area.durable (inside store.journal.part c) (left_inside store.journal.part left c may))) was.area.holds in
    subst (λ (m : Meaning). Means m c) (meaning_is store v was.batches of was.area.front)
    (parts_mean store v was.batches c of was.is_whole (settled_leaves was.superblock c may) area (was.region.left (inside (home_part (geometry_of store)) c) (left_inside (home_part (geometry_of store)) left c may)))

-- a store keeps one volume at most: each block is pending, or home
pub one_home : {n : ℕ} {E F : ℕ → Type 0} {one other : List ℕ} {pending : List (Option (List ℕ))} {home : List ℕ} → AreHomeOrPending n E one pending home → AreHomeOrPending n F other pending home → one ≡ other
one_home {n} {E} {F} {one} {other} {pending} {home} was too = same_from_blocks n one other was.size too.size (λ b below. block_is b below (held pending b) refl)
  where
    block_is : (b : ℕ) → b < n → (place : Option (List ℕ)) → held pending b ≡ place → block_of one b ≡ block_of other b
    block_is b below None is = sym (was.is_home b below is) ∙ too.is_home b below is
    block_is b below (Some bytes) is = sym (was.image b bytes is) ∙ too.image b bytes is

pub one_volume : {store : State} {one other gives : List ℕ} {left : List ℕ → Type 0} → IsStored store one gives left → IsStored store other gives left → one ≡ other
one_volume was too = one_home was.region.waits too.region.waits

-- a run of a disk is one of the store that owns it
pub owned : {D S : Type 0} {moment : D → ℕ} {left_since : D → ℕ → List ℕ → Type 0} {P : List ℕ → Type 0} (disk : S → D) (old new : S) → LeavesOnly moment left_since (disk old) (disk new) P
    → LeavesOnly (λ (s : S). moment (disk s)) (λ (s : S). left_since (disk s)) old new P
owned disk old new run = record { later = run.later; each = run.each; before = run.before }
