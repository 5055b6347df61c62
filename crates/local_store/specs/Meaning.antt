-- What the bytes of a member's disk mean.
use Rattle.std.specs.Prelude.{◌≡◌, ℕ, List}
use Rattle.disk_model.specs.Part.{inside}
use Rattle.gate_journal.specs.Batch.{Batch, HoldsBatches, IsDamaged, last_front}
use Rattle.home_blocks.specs.Home.{HoldsSuperblock, IsNoVolume, IsOtherVersion, IsVolume}
use Rattle.home_blocks.specs.Places.{area_bytes, home_part}
use Rattle.home_blocks.specs.Superblock.{Superblock}
use Rattle.home_blocks.specs.declared.progress.Progress.TheVariants.{Installing, Whole}
use Rattle.local_store.specs.Overlay.{with_batches}
use Rattle.volume.specs.declared.geometry.Geometry.{Geometry}

-- the disk of this incarnation of the member at the slot keeps the volume, of this geometry, after the writes up to the
-- front
pub record Meaning : Type 0 where
  pub slot : ℕ
  pub incarnation : ℕ
  pub geometry : Geometry
  pub front : ℕ
  pub volume : List ℕ

-- the current area holds these batches
abbrev pub HoldsArea : Superblock → List Batch → List ℕ → Type 0
HoldsArea sb batches bytes = HoldsBatches sb.geometry.blocks sb.front batches (area_bytes sb.geometry sb.current bytes)

-- the home region with these batches over it
abbrev pub volume_in : Superblock → List Batch → List ℕ → List ℕ
volume_in sb batches bytes = with_batches (inside (home_part sb.geometry) bytes) batches

-- what this superblock and these batches mean, over such a volume
abbrev pub meaning_of : Superblock → List Batch → List ℕ → Meaning
meaning_of sb batches volume = record { slot = sb.slot; incarnation = sb.incarnation; geometry = sb.geometry; front = last_front sb.front batches; volume = volume }

-- The newer open superblock is that of a whole disk; the bytes mean its home region with the open batches of its current
-- area put over it, in order.
pub record Means (meaning : Meaning) (bytes : List ℕ) : Type 0 where
  pub superblock : Superblock
  pub holds : HoldsSuperblock superblock bytes
  pub is_whole : superblock.progress ≡ Whole
  pub batches : List Batch
  pub area : HoldsArea superblock batches bytes
  pub is : meaning ≡ meaning_of superblock batches (volume_in superblock batches bytes)

-- the disk holds a superblock, and its installation was not finished
pub record IsUnfinished (bytes : List ℕ) : Type 0 where
  pub superblock : Superblock
  pub is_volume : IsVolume superblock bytes
  pub installing : superblock.progress ≡ Installing

-- the disk holds the superblock of a whole volume, and its current area no batches, not even none
pub record HasDamagedArea (bytes : List ℕ) : Type 0 where
  pub superblock : Superblock
  pub is_volume : IsVolume superblock bytes
  pub is_whole : superblock.progress ≡ Whole
  pub damaged : IsDamaged superblock.geometry.blocks superblock.front (area_bytes superblock.geometry superblock.current bytes)

-- none of what `open` refuses by a number is said of the disk
pub record IsOpenable (bytes : List ℕ) : Type 0 where
  pub volume : ¬ IsNoVolume bytes
  pub version : ¬ IsOtherVersion bytes
  pub finished : ¬ IsUnfinished bytes
  pub area : ¬ HasDamagedArea bytes
