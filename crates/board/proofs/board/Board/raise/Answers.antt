use Rattle.std.proofs.Common.{rules}
use Rattle.board.proofs.Fronts.{raise_allowed}
use Rattle.board.proofs.board.Board.raise.Goals as goal

pub fetch_max-found-requires : goal.fetch_max-found-requires
fetch_max-found-requires c = (search rules, search rules, raise_allowed _ _ _ _ _ c.requires.within)
