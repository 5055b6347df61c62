-- What writes make of a volume.
use Rattle.std.specs.Prelude.{ℕ, ◌+◌, ◌*◌, ◌<◌, ◌≤◌, Bool, ◌&&◌, nat_lt, List, ◌++◌, length, take, drop, replicate, fold}

-- bytes, and the place of the first of them in the volume
pub record Placed : Type 0 where
  pub offset : ℕ
  pub bytes : List ℕ

-- the write lies within so many bytes
abbrev pub Fits : ℕ → Placed → Type 0
Fits size w = w.offset + length w.bytes ≤ size

-- the volume with the write's bytes in their places
abbrev pub patched : List ℕ → Placed → List ℕ
patched volume w = take w.offset volume ++ w.bytes ++ drop (w.offset + length w.bytes) volume

-- the volume of this many bytes after these writes, the first of them first
abbrev pub volume_of : ℕ → List Placed → List ℕ
volume_of size ws = fold patched (replicate size 0) ws

-- the 4,096 bytes of a block
unfoldable pub block_of : List ℕ → ℕ → List ℕ
block_of volume block = take 4096 (drop (4096 * block) volume)

-- some byte of the write lies in the block
abbrev pub IsTouched : Placed → ℕ → Type 0
IsTouched w block = (w.offset < 4096 * block + 4096) × (4096 * block < w.offset + length w.bytes) × (0 < length w.bytes)

-- whether some byte of the write lies in the block
abbrev pub touches : ℕ → Placed → Bool
touches block w = nat_lt w.offset (4096 * block + 4096) && nat_lt (4096 * block) (w.offset + length w.bytes) && nat_lt 0 (length w.bytes)

-- some byte of the write lies in the range
abbrev pub Overlaps : Placed → ℕ → ℕ → Type 0
Overlaps w offset len = (w.offset < offset + len) × (offset < w.offset + length w.bytes) × (0 < length w.bytes) × (0 < len)
