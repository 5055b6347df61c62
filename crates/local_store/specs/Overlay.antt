-- A volume with the batches of a journal area put over it.
use Rattle.std.specs.Prelude.{ℕ, ◌*◌, ◌<◌, ◌==◌, ◌≡◌, Bool, true, false, if◌then◌else◌, List, [], ◌∷◌, All, length, fold}
use Rattle.volume.specs.Writes.{Placed, patched, block_of}
use Rattle.gate_journal.specs.Batch.{Batch}
use Rattle.gate_journal.specs.Image.{Image}

-- an image as a write: its whole block
abbrev pub placed : Image → Placed
placed image = record { offset = 4096 * image.block; bytes = image.bytes }

-- the volume with these images over it, the first of them first
abbrev pub with_images : List ℕ → List Image → List ℕ
with_images volume images = fold (λ v image. patched v (placed image)) volume images

-- the volume with these batches over it, the first of them first
abbrev pub with_batches : List ℕ → List Batch → List ℕ
with_batches volume batches = fold (λ v batch. with_images v batch.images) volume batches

-- one of the images is of this block
abbrev pub covers : ℕ → List Image → Bool
covers block [] = false
covers block (image ∷ images) = if image.block == block then true else covers block images

-- one of the batches has an image of this block
abbrev pub is_covered : ℕ → List Batch → Bool
is_covered block [] = false
is_covered block (batch ∷ batches) = if covers block batch.images then true else is_covered block batches

-- an image of a volume of this many blocks
abbrev pub FitsIn : ℕ → Image → Type 0
FitsIn blocks image = (image.block < blocks) × (length image.bytes ≡ 4096)

-- batches of such images
abbrev pub AllFitIn : ℕ → List Batch → Type 0
AllFitIn blocks batches = All (λ batch. All (FitsIn blocks) batch.images) batches

-- volumes that differ in covered blocks alone are one under the batches
abbrev pub BatchesCover : Type 0
BatchesCover = (blocks : ℕ) (one other : List ℕ) (batches : List Batch) → length one ≡ 4096 * blocks → length other ≡ 4096 * blocks → AllFitIn blocks batches
    → ((b : ℕ) → b < blocks → is_covered b batches ≡ false → block_of one b ≡ block_of other b) → with_batches one batches ≡ with_batches other batches

-- a block that isn't covered stays
abbrev pub UncoveredBlocksStay : Type 0
UncoveredBlocksStay = (blocks : ℕ) (volume : List ℕ) (batches : List Batch) (b : ℕ) → length volume ≡ 4096 * blocks → AllFitIn blocks batches
    → is_covered b batches ≡ false → block_of (with_batches volume batches) b ≡ block_of volume b
