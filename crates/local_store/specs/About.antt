-- What a store tells of itself, whatever it is kept on.
use Rattle.std.specs.Prelude.{◌≡◌, ◌≢◌, ◌↔◌, ℕ, ◌+◌, ◌<◌, ◌≤◌, Bool, List, None, Option}
use Rattle.flusher.specs.Plan.{IsRun, IsWithin}
use Rattle.flusher.specs.declared.plan.Run.{Run}
use Rattle.gate_journal.specs.Batch.{Batch, batch_size}
use Rattle.gate_journal.specs.Image.{Image}
use Rattle.home_blocks.specs.declared.version.Version.{Version}
use Rattle.home_blocks.specs.declared.version.Version.TheVariants.{Two}
use Rattle.local_store.specs.Meaning.{Meaning}
use Rattle.local_store.specs.Overlay.{with_images}
use Rattle.local_store.specs.Store.{State, geometry_of}
use Rattle.volume.specs.declared.geometry.Geometry.{Geometry}

-- the version of the disk, whose it is, the sizes, the front, the bytes of the current area that batches have, how many
-- superblocks were stored, whether a device call failed, and the batch for which the log is lent out, if it is
pub record About : Type 0 where
  pub version : Version
  pub slot : ℕ
  pub incarnation : ℕ
  pub geometry : Geometry
  pub front : ℕ
  pub used : ℕ
  pub stores : ℕ
  pub broken : Bool
  pub lent : Option Batch

-- its disk is of version 2: one of version 1 is migrated before anything else is written
abbrev pub IsOfVersionTwo : About → Type 0
IsOfVersionTwo about = about.version ≡ Two

-- what a store means that tells this of itself and keeps the volume
abbrev pub meaning_with : About → List ℕ → Meaning
meaning_with about volume = record { slot = about.slot; incarnation = about.incarnation; geometry = about.geometry; front = about.front; volume = volume }

-- a batch whose images take so many bytes fits into the current area, or is too much for it
abbrev pub HasRoom : About → ℕ → Type 0
HasRoom about size = about.used + 13 + size + 1 ≤ about.geometry.area

abbrev pub HasNoRoom : About → ℕ → Type 0
HasNoRoom about size = about.geometry.area < about.used + 13 + size + 1

-- a batch of these images is too much for it
abbrev pub IsTooMuch : About → List Image → Type 0
IsTooMuch about images = about.geometry.area < about.used + batch_size images + 1

-- after a commit of these images
abbrev pub one_commit_more : About → ℕ → List Image → About
one_commit_more about front images = record about { front = front; used = about.used + batch_size images }

-- what it means then
abbrev pub meaning_then : About → List ℕ → ℕ → List Image → Meaning
meaning_then about volume front images = meaning_with (record about { front = front }) (with_images volume images)

-- after a checkpoint
abbrev pub one_checkpoint_more : About → About
one_checkpoint_more about = record about { used = 0; stores = about.stores + 1 }

-- after the disk was brought to version 2
abbrev pub migrated : About → About
migrated about = record (one_checkpoint_more about) { version = Two }

-- what the contents of a disk tell
abbrev pub about_of : State → About
about_of store = record {
  version = store.home.superblock.version;
  slot = store.home.superblock.slot;
  incarnation = store.home.superblock.incarnation;
  geometry = geometry_of store;
  front = store.journal.front;
  used = store.journal.end;
  stores = store.home.pair.number;
  broken = store.broken;
  lent = None;
}

-- one of these was pending, the block, and now it isn't; of each other it is as before
pub record IsOneLess (block : ℕ) (old new : ℕ → Type 0) : Type 0 where
  pub was : old block
  pub is_home : new block → ⊥
  pub others : (b : ℕ) → b ≢ block → (old b → new b) × (new b → old b)

-- two of these blocks stand one behind the other
abbrev pub HasNeighbours : (ℕ → Type 0) → Type 0
HasNeighbours is_pending = (b : ℕ) × is_pending b × is_pending (b + 1)

-- The blocks of the run were pending, the longest of `most` blocks at most, and now they aren't; of each other it is as
-- before.
pub record IsWithoutRun (most : ℕ) (run : Run) (old new : ℕ → Type 0) : Type 0 where
  pub was : IsRun most old run.first run.count
  pub others : (b : ℕ) → new b ↔ (old b × (¬ IsWithin run.first run.count b))
