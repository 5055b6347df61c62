-- What holds of every volume.
use Rattle.std.specs.Prelude.{◌≡◌, ◌↔◌, ℕ, ◌+◌, ◌*◌, ◌<◌, ◌≤◌, IsTrue, All, List, [], ◌∷◌, ◌++◌, length, take, drop, replicate, filter, fold, slice_index_or}
use Rattle.std.specs.List.{flat_map}
use Rattle.volume.specs.Pieces.{pieces_of}
use Rattle.volume.specs.Writes.{Placed, Fits, patched, volume_of, block_of, IsTouched, touches, Overlaps}

-- one more write is done last
abbrev pub OneMoreIsLast : Type 0
OneMoreIsLast = (size : ℕ) (ws : List Placed) (w : Placed) → volume_of size (ws ++ w ∷ []) ≡ patched (volume_of size ws) w

-- the volume at a front, patched by the next write, is the volume one front on
abbrev pub FrontsGoByOne : Type 0
FrontsGoByOne = (size k : ℕ) (ws : List Placed) (d : Placed) → k < length ws → volume_of size (take (k + 1) ws) ≡ patched (volume_of size (take k ws)) (slice_index_or ws k d)

-- the volume at a front, patched by each later write in turn, is the volume
abbrev pub FrontsGoOn : Type 0
FrontsGoOn = (size k : ℕ) (ws : List Placed) → volume_of size ws ≡ fold patched (volume_of size (take k ws)) (drop k ws)

-- a write that fits keeps the length
abbrev pub WritesKeepLength : Type 0
WritesKeepLength = (volume : List ℕ) (w : Placed) → Fits (length volume) w → length (patched volume w) ≡ length volume

-- a volume has its size, whatever writes fit into it
abbrev pub VolumesHaveTheirSize : Type 0
VolumesHaveTheirSize = (size : ℕ) (ws : List Placed) → All (Fits size) ws → length (volume_of size ws) ≡ size

-- a block inside the volume has its 4,096 bytes
abbrev pub BlocksAreWhole : Type 0
BlocksAreWhole = (volume : List ℕ) (b : ℕ) → 4096 * (b + 1) ≤ length volume → length (block_of volume b) ≡ 4096

-- two volumes with the same blocks are one
abbrev pub BlocksMakeVolumes : Type 0
BlocksMakeVolumes = (n : ℕ) (volume other : List ℕ) → length volume ≡ 4096 * n → length other ≡ 4096 * n
    → ((b : ℕ) → b < n → block_of volume b ≡ block_of other b) → volume ≡ other

-- the test says whether the write touches the block
abbrev pub TestAgrees : Type 0
TestAgrees = (b : ℕ) (w : Placed) → IsTrue (touches b w) ↔ IsTouched w b

-- a block that a write doesn't touch stays
abbrev pub UntouchedBlocksStay : Type 0
UntouchedBlocksStay = (volume : List ℕ) (w : Placed) (b : ℕ) → Fits (length volume) w → ¬ IsTouched w b → block_of (patched volume w) b ≡ block_of volume b

-- a block comes from the writes that touch it, and from no others
abbrev pub BlocksFollowTheirWrites : Type 0
BlocksFollowTheirWrites = (size b : ℕ) (ws : List Placed) → All (Fits size) ws → block_of (volume_of size ws) b ≡ block_of (volume_of size (filter (touches b) ws)) b

-- before the first write a block is zeros
abbrev pub BlocksBeginAsZeros : Type 0
BlocksBeginAsZeros = (size b : ℕ) → 4096 * (b + 1) ≤ size → block_of (volume_of size []) b ≡ replicate 4096 0

-- a range that a write doesn't reach stays
abbrev pub UnreachedRangesStay : Type 0
UnreachedRangesStay = (volume : List ℕ) (w : Placed) (offset len : ℕ) → Fits (length volume) w → ¬ Overlaps w offset len
    → take len (drop offset (patched volume w)) ≡ take len (drop offset volume)

-- the bytes at a write's own place are the write's
abbrev pub WritesReadBack : Type 0
WritesReadBack = (volume : List ℕ) (w : Placed) → Fits (length volume) w → take (length w.bytes) (drop w.offset (patched volume w)) ≡ w.bytes

-- the pieces of a range, each read from its block, are the range
abbrev pub PiecesReadTheRange : Type 0
PiecesReadTheRange = (volume : List ℕ) (offset len : ℕ)
    → flat_map (λ piece. take piece.len (drop piece.start (block_of volume piece.block))) (pieces_of offset len) ≡ take len (drop offset volume)

-- where each touched block is patched and each other stays, the whole volume is patched
abbrev pub BlocksMakeTheWrite : Type 0
BlocksMakeTheWrite = (n : ℕ) (volume new : List ℕ) (w : Placed) → length volume ≡ 4096 * n → length new ≡ 4096 * n → Fits (4096 * n) w
    → ((b : ℕ) → b < n → IsTouched w b → block_of new b ≡ block_of (patched volume w) b)
    → ((b : ℕ) → b < n → ¬ IsTouched w b → block_of new b ≡ block_of volume b) → new ≡ patched volume w
