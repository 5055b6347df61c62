-- What is said of a disk that is being installed.
use Rattle.std.specs.Prelude.{◌≡◌, ℕ, ◌*◌, ◌<◌, Bool, true, false, not, List, length, take, drop, count_by, slice_index_or}
use Rattle.disk_model.specs.Part.{inside}
use Rattle.gate_journal.specs.Pair.{HasGate, slot_bytes}
use Rattle.home_blocks.specs.Home as home
use Rattle.home_blocks.specs.Home.{IsSettledHome}
use Rattle.home_blocks.specs.Places.{home_block, superblock_part}
use Rattle.home_blocks.specs.Superblock.{IsEncoding, Superblock}
use Rattle.home_blocks.specs.declared.area.Area.TheVariants.{First}
use Rattle.home_blocks.specs.declared.progress.Progress.TheVariants.{Installing}
use Rattle.home_blocks.specs.declared.version.Version.TheVariants.{Two}
use Rattle.local_store.specs.Meaning.{Meaning, Means}
use Rattle.volume.specs.Writes.{block_of, patched}
use Rattle.volume.specs.declared.geometry.Geometry.{Geometry}

-- of this slot, where its gate is open, no prefix of what stands behind its head encodes a superblock of this slot of the
-- chain and this incarnation
abbrev pub ShowsNone : ℕ → ℕ → List ℕ → Type 0
ShowsNone slot incarnation bytes = HasGate false bytes → (n : ℕ) (sb : Superblock) → IsEncoding (take n (drop 13 bytes)) sb → sb.slot ≡ slot → sb.incarnation ≡ incarnation → ⊥

-- neither slot of the superblock's pair shows one
pub record HasNone (slot incarnation : ℕ) (bytes : List ℕ) : Type 0 where
  pub first : ShowsNone slot incarnation (slot_bytes 0 (inside superblock_part bytes))
  pub second : ShowsNone slot incarnation (slot_bytes 1 (inside superblock_part bytes))

-- the bytes mean no volume of this slot and incarnation
abbrev pub IsNotMeant : ℕ → ℕ → List ℕ → Type 0
IsNotMeant slot incarnation bytes = (m : Meaning) → m.slot ≡ slot → m.incarnation ≡ incarnation → Means m bytes → ⊥

-- they mean no volume at all
abbrev pub MeansNothing : List ℕ → Type 0
MeansNothing bytes = (m : Meaning) → Means m bytes → ⊥

-- the superblock of a disk that is being installed
abbrev pub unfinished : ℕ → ℕ → Geometry → Superblock
unfinished slot incarnation geometry = record { version = Two; progress = Installing; slot = slot; incarnation = incarnation; geometry = geometry; front = 0; current = First }

-- The disk's superblock is settled, and says that the installation isn't finished: whatever a stop leaves means nothing.
pub record IsInstalling (h : home.State) (gives : List ℕ) (may_leave : List ℕ → Type 0) : Type 0 where
  pub superblock : IsSettledHome h gives may_leave
  pub is_unfinished : h.superblock.progress ≡ Installing
  pub means_nothing : (c : List ℕ) → may_leave c → MeansNothing c

-- how many blocks are still to be given
abbrev pub left_of : List Bool → ℕ
left_of given = count_by not given

-- the block was given
abbrev pub IsGiven : List Bool → ℕ → Type 0
IsGiven given block = slice_index_or given block false ≡ true

-- The volume is as long as the geometry says; each block that was given is, in the home region, that block of it.
pub record HasGiven (g : Geometry) (given : List Bool) (volume bytes : List ℕ) : Type 0 where
  pub size : length volume ≡ 4096 * g.blocks
  pub is_home : (b : ℕ) → b < g.blocks → IsGiven given b → home_block bytes g b ≡ block_of volume b

-- the volume with this block replaced
abbrev pub with_block : List ℕ → ℕ → List ℕ → List ℕ
with_block volume block bytes = patched volume (record { offset = 4096 * block; bytes = bytes })

-- what the disk means whose installation is finished at this front
abbrev pub finished_meaning : Superblock → ℕ → List ℕ → Meaning
finished_meaning sb front volume = record { slot = sb.slot; incarnation = sb.incarnation; geometry = sb.geometry; front = front; volume = volume }
