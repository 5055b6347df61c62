use Rattle.volume.specs.PieceLemmas.{IsPieceOf-pieces_of, blocks_ascend, GoInTurn-pieces_of, piece_bytes-pieces_of}
use Rattle.volume.proofs.piece.pieces.Goals as goal

pub returns-clause-each : goal.returns-clause-each
returns-clause-each c = rw c.first_piece.ensures (IsPieceOf-pieces_of c.args.offset c.args.len)

pub returns-clause-ascending : goal.returns-clause-ascending
returns-clause-ascending c = rw c.first_piece.ensures (blocks_ascend c.args.offset c.args.len)

pub returns-clause-in_turn : goal.returns-clause-in_turn
returns-clause-in_turn c = rw c.first_piece.ensures (GoInTurn-pieces_of c.args.offset c.args.len)

pub returns-clause-whole : goal.returns-clause-whole
returns-clause-whole c = rw c.first_piece.ensures (piece_bytes-pieces_of c.args.offset c.args.len)
