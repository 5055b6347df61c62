-- What a sender has given of a volume, and the copy that comes of it.
use Rattle.std.specs.Prelude.{◌≡◌, ◌↔◌, ◌⊎◌, ℕ, ◌+◌, ◌<◌, ◌≤◌, Bool, false, true, nat_lt, if◌then◌else◌, Option, Some, List, length, set, slice_index_or, position}
use Rattle.std.specs.List.{position_or_len}
use Rattle.volume.specs.Writes.{IsTouched, Placed, block_of}
use Rattle.rejoin_catchup.specs.declared.piece.Piece.{Piece}
use Rattle.rejoin_catchup.specs.declared.piece.Piece.TheVariants.{First, Again}

-- how many blocks were given, from block 0 up, and for each block of the volume whether it was written since it was given
pub record Sending : Type 0 where
  pub given : ℕ
  pub marks : List Bool

-- the block was written since it was given
abbrev pub IsMarked : Sending → ℕ → Type 0
IsMarked s block = slice_index_or s.marks block false ≡ true

-- the block was given, and not written since
abbrev pub IsCurrent : Sending → ℕ → Type 0
IsCurrent s block = (block < s.given) × (slice_index_or s.marks block false ≡ false)

-- no more is given than the largest volume has, and only a given block is marked
pub record IsSending (s : Sending) : Type 0 where
  pub within : s.given ≤ length s.marks
  pub few : length s.marks ≤ 65536
  pub unmarked : (block : ℕ) → s.given ≤ block → slice_index_or s.marks block false ≡ false

-- the copy is as long as the volume, and has each block of it that was given and not written since
pub record IsCopy (s : Sending) (volume copy : List ℕ) : Type 0 where
  pub as_long : length copy ≡ length volume
  pub blocks : (block : ℕ) → IsCurrent s block → block_of copy block ≡ block_of volume block

-- the given blocks that the write touches are marked from then on, and no others that weren't
pub record AreMarked (w : Placed) (old new : Sending) : Type 0 where
  pub given : new.given ≡ old.given
  pub blocks : length new.marks ≡ length old.marks
  pub marked : (block : ℕ) → IsMarked new block ↔ (IsMarked old block ⊎ ((block < old.given) × IsTouched w block))

-- the least block that is marked, or the number of blocks
abbrev pub least_marked : List Bool → ℕ
least_marked marks = position_or_len (λ marked. marked) marks

-- the block that is given next: the first that wasn't; where all were, the least that is marked
abbrev pub due_of : Sending → Option ℕ
due_of s = if nat_lt s.given (length s.marks) then Some s.given else position (λ marked. marked) s.marks

-- the piece by which a block is given
abbrev pub piece_of : Sending → ℕ → List ℕ → Piece
piece_of s block bytes = if nat_lt s.given (length s.marks) then First block bytes else Again block bytes

-- after the block that was due is given
abbrev pub gave : Sending → Sending
gave s = if nat_lt s.given (length s.marks) then record s { given = s.given + 1 } else record s { marks = set s.marks (least_marked s.marks) false }
