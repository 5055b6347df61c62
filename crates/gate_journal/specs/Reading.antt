-- What stands at a place of an area: what the calls that read one say of it.
use Rattle.std.specs.Prelude.{◌≡◌, ◌≢◌, ℕ, ◌+◌, ◌<◌, All, List, [], ◌∷◌, ◌++◌, length, drop, Option, Some, None}
use Rattle.gate_journal.specs.Batch.{AreBatches, Batch, EncodesBatch, EncodesImage, InTurn, IsBatch, IsWhole, last_front}
use Rattle.gate_journal.specs.Image.{Image}

-- the area's bytes between two places
abbrev pub HoldsAt : List ℕ → ℕ → ℕ → List ℕ → Type 0
HoldsAt area from to bytes = drop from area ≡ bytes ++ drop to area

-- the bytes from a place of the area on begin with something that is read so, and the other place is behind it
pub record HoldsTo {A : Type 0} (Encodes : A → List ℕ → Type 0) (from area : List ℕ) (at end : ℕ) (item : A) : Type 0 where
  pub bytes : List ℕ
  pub encodes : Encodes item bytes
  pub stands : from ≡ bytes ++ drop end area
  pub long : end ≡ at + length bytes

-- at a place of the area stands a batch, up to another, or a closed gate
abbrev pub IsFound : ℕ → ℕ → List ℕ → ℕ → Option (Batch × ℕ) → Type 0
IsFound blocks before area at None = (gate : ℕ) × (gate ≢ 1) × HoldsAt area at (at + 1) (gate ∷ [])
IsFound blocks before area at (Some found) = IsBatch blocks before found.0 × HoldsTo EncodesBatch (drop at area) area at found.1 found.0

-- the bytes don't begin with an image and one byte more
abbrev pub HasNoImage : List ℕ → Type 0
HasNoImage bytes = (image : Image) (first rest : List ℕ) → IsWhole image → EncodesImage image first → 0 < length rest → bytes ≡ first ++ rest → ⊥

-- nor with so many
abbrev pub HasNoImages : ℕ → List ℕ → Type 0
HasNoImages count bytes = (images : List Image) (first rest : List ℕ) → length images ≡ count → All IsWhole images → InTurn EncodesImage images first → 0 < length rest → bytes ≡ first ++ rest → ⊥

-- nor with a batch
abbrev pub HasNoBatch : ℕ → ℕ → List ℕ → Type 0
HasNoBatch blocks before bytes = (batch : Batch) (first rest : List ℕ) → IsBatch blocks before batch → EncodesBatch batch first → 0 < length rest → bytes ≡ first ++ rest → ⊥

-- the area begins with these batches, and the place is behind them
pub record Begins (blocks before : ℕ) (batches : List Batch) (area : List ℕ) (place last : ℕ) : Type 0 where
  pub are : AreBatches blocks before batches
  pub bytes : List ℕ
  pub encode : InTurn EncodesBatch batches bytes
  pub stands : HoldsAt area 0 place bytes
  pub end : place ≡ length bytes
  pub front : last ≡ last_front before batches
