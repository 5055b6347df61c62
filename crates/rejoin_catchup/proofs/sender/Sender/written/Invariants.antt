use Rattle.std.proofs.Common.{◌≡◌, ◌/◌, ◌++◌, length}
use Rattle.volume.specs.Pieces.{pieces_of}
use Rattle.rejoin_catchup.proofs.Written.{HasMarked}
use Rattle.rejoin_catchup.proofs.sender.Sender.written.Given as goal

-- the blocks of the pieces so far are marked
abbrev pub invariant-loop-piece : goal.invariant-loop-piece
invariant-loop-piece l = record {
  whole : l.yielded ++ l.piece-iterator ≡ pieces_of l.fn.write.offset (length l.fn.write.bytes);
  marked : HasMarked (l.fn.write.offset / 4096) (length l.yielded) l.fn.self l.self;
}
