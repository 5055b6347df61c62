-- Where a member's disk has its parts: the superblock's, the home region, and the two journal areas.
use Rattle.std.specs.Prelude.{◌≡◌, ℕ, ◌+◌, ◌*◌, ◌^◌, ◌<◌, List, take, drop}
use Rattle.std.proofs.Common.{arith, lit<, ap, ◌∙◌, ⊎_elim, inl, inr}
use Rattle.disk_model.specs.Part.{inside, IsApart}
use Rattle.disk_model.specs.declared.part.Part.{Part}
use Rattle.volume.specs.Writes.{block_of}
use Rattle.volume.specs.declared.geometry.Geometry.{Geometry}
use Rattle.home_blocks.specs.Area.{area_number}
use Rattle.home_blocks.specs.declared.area.Area.{Area}
use Rattle.home_blocks.specs.declared.area.Area.TheVariants.{First, Second}

-- how many bytes a disk has at least
abbrev pub disk_size_of : Geometry → ℕ
disk_size_of g = 8192 + 4096 * g.blocks + 2 * g.area

-- where the home half of a disk ends and its log half begins: behind the home region, with the first area
abbrev pub border_of : Geometry → ℕ
border_of g = 8192 + 4096 * g.blocks

-- the parts end below 2^64
pub superblock_fits : 0 + 8192 < 2 ^ 64
superblock_fits = lit< tt

pub home_fits : (g : Geometry) → 8192 + 4096 * g.blocks < 2 ^ 64
home_fits g = omega (arith, g.some_blocks.1)

-- the superblock's part: its first 8,192 bytes
abbrev pub superblock_part : Part
superblock_part = record { start = 0; len = 8192; fits = superblock_fits }

-- the home region: the blocks, one behind the other
abbrev pub home_part : Geometry → Part
home_part g = record { start = 8192; len = 4096 * g.blocks; fits = home_fits g }

-- where an area begins
abbrev pub area_start : Geometry → Area → ℕ
area_start g area = border_of g + area_number area * g.area

-- the part is that of this area
pub record IsAreaPart (g : Geometry) (area : Area) (part : Part) : Type 0 where
  pub start : part.start ≡ area_start g area
  pub len : part.len ≡ g.area

-- the bytes of an area
abbrev pub area_bytes : Geometry → Area → List ℕ → List ℕ
area_bytes g area bytes = take g.area (drop (area_start g area) bytes)

-- the bytes of a block in the home region
abbrev pub home_block : List ℕ → Geometry → ℕ → List ℕ
home_block bytes g b = block_of (inside (home_part g) bytes) b

-- the bytes of an area are those inside its part
pub inside-area : (g : Geometry) (area : Area) (part : Part) (bytes : List ℕ) → IsAreaPart g area part → inside part bytes ≡ area_bytes g area bytes
inside-area g area part bytes is = ap (λ (k : ℕ). take k (drop part.start bytes)) is.len ∙ ap (λ (k : ℕ). take g.area (drop k bytes)) is.start

-- The parts lie apart, either way round: lemmas for the crates above.
pub apart_back : (one other : Part) → IsApart one other → IsApart other one
apart_back one other apart = ⊎_elim (λ behind. inr behind) (λ ahead. inl ahead) apart

pub home_apart : (g : Geometry) → IsApart superblock_part (home_part g)
home_apart g = inl (omega arith)

module _ (g : Geometry) (area : Area) (part : Part) (is : IsAreaPart g area part) where
  pub area_behind_superblock : IsApart superblock_part part
  area_behind_superblock = inl (omega (arith, is.start))

  pub area_behind_home : IsApart (home_part g) part
  area_behind_home = inl (omega (arith, is.start))

pub areas_apart : (g : Geometry) (first second : Part) → IsAreaPart g First first → IsAreaPart g Second second → IsApart first second
areas_apart g first second is is' = inl (omega (arith, is.start, is.len, is'.start))
