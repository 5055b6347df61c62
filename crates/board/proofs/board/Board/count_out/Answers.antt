use Rattle.std.proofs.Common.{rules}
use Rattle.board.proofs.Masks.{count_out_allowed}
use Rattle.board.proofs.board.Board.count_out.Goals as goal

pub fetch_and-requires : goal.fetch_and-requires
fetch_and-requires c = (search rules, search rules, rw c.bit_of.ensures.bit (count_out_allowed _ _ _ _ c.args.slot c.bit_of.ensures.slot (search rules)))
