use Rattle.std.proofs.Common.{rules}
use Rattle.board.proofs.Fronts.{look_allowed}
use Rattle.board.proofs.board.Board.look.Goals as goal

pub load-number-requires : goal.load-number-requires
load-number-requires c = (search rules, search rules, look_allowed _ _ _ _)
