use Rattle.std.proofs.Common.{rules}
use Rattle.board.proofs.Masks.{crew_allowed}
use Rattle.board.proofs.board.Board.crew.Goals as goal

pub load-mask-requires : goal.load-mask-requires
load-mask-requires c = (search rules, search rules, crew_allowed _ _ _ _)
