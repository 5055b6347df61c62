-- Where an iterator over pieces stands.
use Rattle.std.specs.Prelude.{◌+◌, ◌-◌, ◌*◌, ◌<◌, ◌≤◌, List, map}
use Rattle.std.specs.List.{range_with_len}
use Rattle.volume.specs.declared.piece.PieceIter.TheInside.{Inside}
use Rattle.volume.specs.declared.piece.Piece.{Piece}
use Rattle.volume.specs.Pieces.{piece_in}

-- the pieces of the blocks that are left
abbrev pub pieces_left : Inside → List Piece
pieces_left p = map (piece_in p.offset (p.end - p.offset)) (range_with_len p.block p.left)

-- the range has a byte in each block that is left
pub record IsCursor (p : Inside) : Type 0 where
  pub within : p.end ≤ 4096 * 65536
  pub ordered : p.offset ≤ p.end
  pub begins : 0 < p.left → p.offset < 4096 * p.block + 4096
  pub ends : 0 < p.left → 4096 * (p.block + p.left) < p.end + 4096
