use Rattle.world_model.proofs.Runs.{owed_stays}
use Rattle.world_model.proofs.laws.owed_stays.Goals as goal

pub returns : goal.returns
returns c = owed_stays
