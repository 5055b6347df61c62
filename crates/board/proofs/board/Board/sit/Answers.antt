use Rattle.std.proofs.Common.{rules}
use Rattle.board.proofs.Beginning.{sits_allowed}
use Rattle.board.proofs.board.Board.sit.Goals as goal

pub load_new_seat-front-requires : goal.load_new_seat-front-requires
load_new_seat-front-requires c = (search rules, sits_allowed _ _ (search rules))
