use Rattle.world_model.proofs.Runs.{nothing_is_lost}
use Rattle.world_model.proofs.laws.nothing_is_lost.Goals as goal

pub returns : goal.returns
returns c = nothing_is_lost
