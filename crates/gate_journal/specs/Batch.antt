-- The encoding of a batch, and what makes images a batch.
use Rattle.std.specs.Prelude.{◌≡◌, ◌≢◌, ◌⊎◌, ◌==◌, ℕ, ◌+◌, ◌*◌, ◌^◌, ◌<◌, ◌≤◌, Bool, true, if◌then◌else◌, List, [], ◌∷◌, ◌++◌, length, All, AllPairs}
use Rattle.std.specs.List.{flat_map, list_all}
use Rattle.std.proofs.Common.{◌∙◌}
use Rattle.byteorder.specs.Endian.{big_bytes}
use Rattle.gate_journal.specs.Image.{Image, is_zeros}
use Rattle.gate_journal.specs.declared.batch.TheConstants.{MAX_NUMBER}

-- the front after a batch, and its images
pub record Batch : Type 0 where
  pub front : ℕ
  pub images : List Image

-- a block's number in four bytes, and the block
abbrev pub whole_encoding : Image → List ℕ
whole_encoding image = big_bytes 4 image.block ++ image.bytes

-- a mark, which stands for a block of zeros: the block's number in four bytes, with bit 31 set
abbrev pub mark_encoding : Image → List ℕ
mark_encoding image = big_bytes 4 (image.block + 2 ^ 31)

-- an image as it is written: of zeros, as a mark
abbrev pub image_encoding : Image → List ℕ
image_encoding image = if is_zeros image.bytes then mark_encoding image else whole_encoding image

-- its bytes
abbrev pub image_size : Image → ℕ
image_size image = if is_zeros image.bytes then 4 else 4100

abbrev pub images_size : List Image → ℕ
images_size [] = 0
images_size (image ∷ images) = image_size image + images_size images

-- the front in eight bytes, the number of images in four
abbrev pub head_encoding : ℕ → ℕ → List ℕ
head_encoding front count = big_bytes 8 front ++ big_bytes 4 count

-- and the images
abbrev pub body_encoding : ℕ → List Image → List ℕ
body_encoding front images = head_encoding front (length images) ++ flat_map image_encoding images

-- the body, and the closed gate behind it
abbrev pub encoding_behind_gate : ℕ → List Image → List ℕ
encoding_behind_gate front images = body_encoding front images ++ 0 ∷ []

-- an open gate, and the body
unfoldable pub batch_encoding : Batch → List ℕ
batch_encoding batch = 1 ∷ body_encoding batch.front batch.images

-- the bytes of a batch of these images
abbrev pub batch_size : List Image → ℕ
batch_size images = 13 + images_size images

-- what is read as an image: the whole block, or, of zeros, a mark
abbrev pub EncodesImage : Image → List ℕ → Type 0
EncodesImage image bytes = (bytes ≡ whole_encoding image) ⊎ ((is_zeros image.bytes ≡ true) × (bytes ≡ mark_encoding image))

-- the bytes of each, one after another
abbrev pub InTurn : {A : Type 0} → (A → List ℕ → Type 0) → List A → List ℕ → Type 0
InTurn Encodes [] bytes = bytes ≡ []
InTurn Encodes (item ∷ items) bytes = (first rest : List ℕ) × Encodes item first × InTurn Encodes items rest × (bytes ≡ first ++ rest)

-- what is read as a batch: an open gate, the front, the number of images, the images
pub record EncodesBatch (batch : Batch) (bytes : List ℕ) : Type 0 where
  pub text : List ℕ
  pub images : InTurn EncodesImage batch.images text
  pub is : bytes ≡ 1 ∷ (head_encoding batch.front (length batch.images) ++ text)

-- at least one image, each of a block of the volume, no block twice
pub record AreImages (blocks : ℕ) (images : List Image) : Type 0 where
  pub some : 0 < length images
  pub within : All (λ image. image.block < blocks) images
  pub once : AllPairs (λ a b. a.block ≢ b.block) images

-- an image whose block's number has 31 bits, and its block 4,096 bytes
pub record IsWhole (image : Image) : Type 0 where
  pub block : image.block < 2 ^ 31
  pub size : length image.bytes ≡ 4096

-- a batch of the volume that may stand behind a batch of the front before
pub record IsBatch (blocks before : ℕ) (batch : Batch) : Type 0 where
  pub rises : before < batch.front
  pub limit : batch.front ≤ MAX_NUMBER
  pub images : AreImages blocks batch.images
  pub count : length batch.images < 2 ^ 32
  pub whole : All IsWhole batch.images

-- batches of the volume, each front above the one before it
abbrev pub AreBatches : ℕ → ℕ → List Batch → Type 0
AreBatches blocks before [] = Unit {0}
AreBatches blocks before (batch ∷ batches) = IsBatch blocks before batch × AreBatches blocks batch.front batches

-- the front of the last batch, or the one before the first
abbrev pub last_front : ℕ → List Batch → ℕ
last_front before [] = before
last_front before (batch ∷ batches) = last_front batch.front batches

-- the area is the batches one after another, then a closed gate, then anything
pub record HoldsBatches (blocks before : ℕ) (batches : List Batch) (area : List ℕ) : Type 0 where
  pub are : AreBatches blocks before batches
  pub bytes : List ℕ
  pub encode : InTurn EncodesBatch batches bytes
  pub gate : ℕ
  pub closed : gate ≢ 1
  pub rest : List ℕ
  pub is : area ≡ bytes ++ gate ∷ rest

-- bytes that are the same hold the same batches: a lemma for the crates above
abbrev pub held_as : {blocks before : ℕ} {batches : List Batch} {old new : List ℕ} → new ≡ old → HoldsBatches blocks before batches old → HoldsBatches blocks before batches new
held_as same held = record { are = held.are; bytes = held.bytes; encode = held.encode; gate = held.gate; closed = held.closed; rest = held.rest; is = same ∙ held.is }

-- the area holds no batches, not even none
abbrev pub IsDamaged : ℕ → ℕ → List ℕ → Type 0
IsDamaged blocks before area = (batches : List Batch) → HoldsBatches blocks before batches area → ⊥

-- the area holds the old batches, or these and one more
abbrev pub HoldsOldOrNew : ℕ → ℕ → List Batch → Batch → List ℕ → Type 0
HoldsOldOrNew blocks before old batch area = HoldsBatches blocks before old area ⊎ HoldsBatches blocks before (old ++ batch ∷ []) area
