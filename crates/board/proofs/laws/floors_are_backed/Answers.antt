use Rattle.board.proofs.FloorLemmas.{floor_is_backed}
use Rattle.board.proofs.laws.floors_are_backed.Goals as goal

pub returns : goal.returns
returns c = floor_is_backed
