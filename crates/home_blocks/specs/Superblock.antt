-- What a superblock says, and its encoding.
use Rattle.std.specs.Prelude.{◌≡◌, ◌≢◌, ℕ, ◌^◌, ◌<◌, ◌≤◌, List, [], ◌∷◌, ◌++◌, codes}
use Rattle.byteorder.specs.Endian.{big_bytes}
use Rattle.gate_journal.specs.declared.batch.TheConstants.{MAX_NUMBER}
use Rattle.volume.specs.declared.geometry.Geometry.{Geometry}
use Rattle.home_blocks.specs.Area.{area_number}
use Rattle.home_blocks.specs.Progress.{progress_number}
use Rattle.home_blocks.specs.Version.{version_number}
use Rattle.home_blocks.specs.declared.area.Area.{Area}
use Rattle.home_blocks.specs.declared.progress.Progress.{Progress}
use Rattle.home_blocks.specs.declared.progress.Progress.TheVariants.{Whole}
use Rattle.home_blocks.specs.declared.version.Version.{Version}
use Rattle.home_blocks.specs.declared.version.Version.TheVariants.{Two}

-- what a member's disk says of itself: the version of its encoding, how far it is installed, whose it is, its sizes, the
-- front before the first batch of its journal, and the area in which that journal stands
pub record Superblock : Type 0 where
  pub version : Version
  pub progress : Progress
  pub slot : ℕ
  pub incarnation : ℕ
  pub geometry : Geometry
  pub front : ℕ
  pub current : Area

-- one with numbers that have room in their places
pub record IsSuperblock (sb : Superblock) : Type 0 where
  pub slot : sb.slot < 8
  pub incarnation : sb.incarnation ≤ MAX_NUMBER
  pub area : sb.geometry.area < 2 ^ 32
  pub front : sb.front ≤ MAX_NUMBER

-- the superblock of the whole disk, at this front and area, of version 2
abbrev pub marked : Superblock → ℕ → Area → Superblock
marked sb front area = record sb { version = Two; progress = Whole; front = front; current = area }

-- the magic, and the number of a version in four bytes
abbrev pub header_encoding : ℕ → List ℕ
header_encoding version = codes "CRAQDISK" ++ big_bytes 4 version

-- the blocks, the bytes of an area, and the largest payload, in four bytes each
abbrev pub geometry_encoding : Geometry → List ℕ
geometry_encoding g = big_bytes 4 g.blocks ++ big_bytes 4 g.area ++ big_bytes 4 g.max_payload

-- what stands behind the header: progress and slot in one byte each, the incarnation in eight, the geometry, the front
-- in eight, the area in one
abbrev pub fields_encoding : Superblock → List ℕ
fields_encoding sb = progress_number sb.progress ∷ sb.slot ∷ big_bytes 8 sb.incarnation ++ geometry_encoding sb.geometry ++ big_bytes 8 sb.front ++ area_number sb.current ∷ []

-- the header of its version, and the fields
unfoldable pub superblock_encoding : Superblock → List ℕ
superblock_encoding sb = header_encoding (version_number sb.version) ++ fields_encoding sb

-- the bytes are the encoding of this superblock
pub record IsEncoding (bytes : List ℕ) (sb : Superblock) : Type 0 where
  pub is : IsSuperblock sb
  pub encoded : bytes ≡ superblock_encoding sb

-- the bytes begin with the magic and the number of a version that isn't 1 or 2
pub record HasOtherVersion (bytes : List ℕ) : Type 0 where
  pub version : ℕ
  pub rest : List ℕ
  pub fits : version < 2 ^ 32
  pub other : (v : Version) → version ≢ version_number v
  pub begins : bytes ≡ header_encoding version ++ rest

-- the bytes are no superblock's, of these versions or of another
pub record IsNoSuperblock (bytes : List ℕ) : Type 0 where
  pub none : (sb : Superblock) → IsEncoding bytes sb → ⊥
  pub same : HasOtherVersion bytes → ⊥
