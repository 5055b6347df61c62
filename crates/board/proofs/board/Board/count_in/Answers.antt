use Rattle.std.proofs.Common.{rules}
use Rattle.board.proofs.Masks.{count_in_allowed}
use Rattle.board.proofs.board.Board.count_in.Goals as goal

pub fetch_or-requires : goal.fetch_or-requires
fetch_or-requires c = (search rules, search rules, rw c.bit_of.ensures.bit (count_in_allowed _ _ _ _ c.args.slot c.bit_of.ensures.slot (search rules)))
