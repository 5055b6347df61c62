use Rattle.std.proofs.Common.{◌≡◌, ℕ, ◌+◌, ◌≤◌, ◌++◌, List, fold, length, vec_len, vec_capacity}
use Rattle.std.specs.Prelude.{All}
use Rattle.std.specs.List.{flat_map}
use Rattle.version_table.specs.Held.{writes_upto}
use Rattle.volume.specs.Pieces.{IsPieceOf, piece_bytes, pieces_of}
use Rattle.volume.specs.Writes.{patched}
use Rattle.chain_core.specs.Node.{size_of}
use Rattle.chain_core.proofs.Ranges.{piece_read}
use Rattle.chain_core.specs.Reads.{HasOnlyRead}
use Rattle.chain_core.proofs.reading.read_pieces.Given as goal

-- the bytes of the pieces so far, from a store that was only read
abbrev pub invariant-loop-piece : goal.invariant-loop-piece
invariant-loop-piece g l = record {
  whole : l.yielded ++ l.piece-iterator ≡ pieces_of l.offset l.len;
  each : All (IsPieceOf l.offset l.len) l.piece-iterator;
  room : vec_len l.bytes + piece_bytes l.piece-iterator ≤ vec_capacity l.bytes;
  store : HasOnlyRead g.S.StoreLike.keeps_model g.S.StoreLike.about g.S.StoreLike.failures g.S.StoreLike.keeps g.S.StoreLike.moment g.S.StoreLike.may_have_left_since l.fn.store l.store;
  bytes : g.S.StoreLike.keeps_model → (volume : List ℕ) → g.S.StoreLike.keeps l.fn.store volume → length volume ≡ size_of (g.S.StoreLike.about l.fn.store)
      → l.bytes.items ≡ flat_map (piece_read (fold patched volume (writes_upto l.table l.front))) l.yielded;
}
