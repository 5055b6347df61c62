-- The pieces of a range of bytes, one in each block that it touches.
use Rattle.std.specs.Prelude.{◌≡◌, ℕ, ◌+◌, ◌-◌, ◌*◌, ◌/◌, ◌<◌, ◌≤◌, min, max, List, length, map, sum_by, take, slice_index_or, if◌then◌else◌, ◌==◌}
use Rattle.std.specs.List.{range_with_len}
use Rattle.volume.specs.declared.piece.Piece.{Piece}

-- what the bytes offset .. offset + len have in a block
abbrev pub piece_in : ℕ → ℕ → ℕ → Piece
piece_in offset len block =
    let start = max offset (4096 * block) in
    let end = min (offset + len) (4096 * block + 4096) in
    record { block = block; start = start - 4096 * block; from = start - offset; len = end - start }

-- how many blocks the bytes offset .. offset + len touch
abbrev pub touched_count : ℕ → ℕ → ℕ
touched_count offset len = if len == 0 then 0 else (offset + len - 1) / 4096 + 1 - offset / 4096

-- the blocks that the bytes touch, ascending
abbrev pub touched : ℕ → ℕ → List ℕ
touched offset len = range_with_len (offset / 4096) (touched_count offset len)

-- the piece of each of them
abbrev pub pieces_of : ℕ → ℕ → List Piece
pieces_of offset len = map (piece_in offset len) (touched offset len)

-- a piece has at least one byte, within its block and within the range, and its bytes stand at the same places of the
-- volume in both
pub record IsPieceOf (offset len : ℕ) (piece : Piece) : Type 0 where
  pub some : 0 < piece.len
  pub in_block : piece.start + piece.len ≤ 4096
  pub in_range : piece.from + piece.len ≤ len
  pub place : 4096 * piece.block + piece.start ≡ offset + piece.from

-- the bytes of these pieces
abbrev pub piece_bytes : List Piece → ℕ
piece_bytes pieces = sum_by (λ piece. piece.len) pieces

-- each piece begins in the range where those before it end
abbrev pub GoInTurn : List Piece → Type 0
GoInTurn pieces = (k : ℕ) (d : Piece) → k < length pieces → (slice_index_or pieces k d).from ≡ piece_bytes (take k pieces)
