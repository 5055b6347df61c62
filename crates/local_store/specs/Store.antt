-- What contracts see of a store, and what its disk then holds.
use Rattle.std.specs.Prelude.{◌≡◌, ℕ, ◌+◌, ◌≤◌, Bool, false, Option, None, List, length, set}
use Rattle.disk_model.specs.Part.{inside, LeftInside}
use Rattle.block_cache.specs.Cache.{Agrees, Blocks}
use Rattle.gate_journal.specs.Batch.{Batch}
use Rattle.gate_journal.specs.Journal as journal
use Rattle.gate_journal.specs.Journal.{IsSettled, appended}
use Rattle.gate_journal.specs.Image.{Image}
use Rattle.gate_journal.specs.declared.batch.TheConstants.{MAX_NUMBER}
use Rattle.home_blocks.specs.Home as home
use Rattle.home_blocks.specs.Home.{IsSettledHome}
use Rattle.home_blocks.specs.Area.{other_area}
use Rattle.home_blocks.specs.Places.{home_part, IsAreaPart}
use Rattle.home_blocks.specs.Superblock.{Superblock, marked}
use Rattle.home_blocks.specs.declared.progress.Progress.TheVariants.{Whole}
use Rattle.local_store.specs.Meaning.{Meaning}
use Rattle.local_store.specs.Overlay.{with_images}
use Rattle.local_store.specs.Pending.{IsHome, held, with_pending}
use Rattle.volume.specs.declared.geometry.Geometry.{Geometry}

-- the superblock and its pair, the journal in the current area, the images that are not yet home, by block, the blocks of
-- the home region that are kept in memory, and whether a device call failed
pub record State : Type 0 where
  pub home : home.State
  pub journal : journal.State
  pub pending : List (Option (List ℕ))
  pub cache : Blocks
  pub broken : Bool

-- its geometry
abbrev pub geometry_of : State → Geometry
geometry_of store = store.home.superblock.geometry

-- what a store means that keeps this volume
abbrev pub meaning_in : State → List ℕ → Meaning
meaning_in store volume = record { slot = store.home.superblock.slot; incarnation = store.home.superblock.incarnation; geometry = geometry_of store; front = store.journal.front; volume = volume }

-- the journal stands in the superblock's current area, for its volume
pub record IsOfSuperblock (store : State) : Type 0 where
  pub part : IsAreaPart (geometry_of store) store.home.superblock.current store.journal.part
  pub slot : store.journal.slot ≡ store.home.superblock.slot
  pub blocks : store.journal.blocks ≡ (geometry_of store).blocks
  pub before : store.journal.before ≡ store.home.superblock.front

-- The store keeps this volume: the superblock and the current area are settled, and whatever a stop leaves of the home
-- region is the volume under the area's batches.
pub record IsStored (store : State) (volume : List ℕ) (gives : List ℕ) (may_leave : List ℕ → Type 0) : Type 0 where
  pub stands : IsOfSuperblock store
  pub superblock : IsSettledHome store.home gives may_leave
  pub is_whole : store.home.superblock.progress ≡ Whole
  pub batches : List Batch
  pub area : IsSettled store.journal batches gives may_leave
  pub region : IsHome (geometry_of store).blocks volume batches store.pending (inside (home_part (geometry_of store)) gives) (LeftInside (home_part (geometry_of store)) may_leave)
  pub cached : Agrees store.cache (inside (home_part (geometry_of store)) gives)
  pub runs : store.broken ≡ false

-- What holds of every store, broken or not.
pub record IsSound (store : State) : Type 0 where
  pub journal : IsOfSuperblock store
  pub table : length store.pending ≡ (geometry_of store).blocks
  pub front : store.journal.front ≤ MAX_NUMBER
  pub runs : store.broken ≡ false → (store.journal.broken ≡ false) × (store.home.pair.broken ≡ false)

-- the store after a commit of these images
abbrev pub committed : State → ℕ → List Image → State
committed store front images = record store { journal = appended store.journal front images; pending = with_pending store.pending images }

-- what it means then
abbrev pub meaning_after : State → List ℕ → ℕ → List Image → Meaning
meaning_after store volume front images = record (meaning_in store volume) { front = front; volume = with_images volume images }

-- the store with a block home, and this in its cache
abbrev pub with_home : State → ℕ → Blocks → State
with_home store block cache = record store { pending = set store.pending block None; cache = cache }

-- nothing is pending
abbrev pub IsAllHome : State → Type 0
IsAllHome store = (b : ℕ) → held store.pending b ≡ None

-- this journal is empty, at this front, in the area that isn't the superblock's current one
pub record IsFreshJournal (sb : Superblock) (last : ℕ) (fresh : journal.State) : Type 0 where
  pub part : IsAreaPart sb.geometry (other_area sb.current) fresh.part
  pub slot : fresh.slot ≡ sb.slot
  pub blocks : fresh.blocks ≡ sb.geometry.blocks
  pub before : fresh.before ≡ last
  pub front : fresh.front ≡ last
  pub end : fresh.end ≡ 0
  pub runs : fresh.broken ≡ false

-- the new store has nothing pending, and an empty journal in the other area
pub record IsEmptied (old new : State) : Type 0 where
  pub home : IsAllHome new
  pub superblock : new.home.superblock ≡ marked old.home.superblock old.journal.front (other_area old.home.superblock.current)
  pub stores : new.home.pair.number ≡ old.home.pair.number + 1
  pub journal : IsFreshJournal old.home.superblock old.journal.front new.journal
  pub ran : old.broken ≡ false
  pub runs : new.broken ≡ false

-- the new store tells of itself what the old one did
pub record IsSameButForPending (old new : State) : Type 0 where
  pub superblock : new.home.superblock ≡ old.home.superblock
  pub stores : new.home.pair.number ≡ old.home.pair.number
  pub journal : new.journal ≡ old.journal
