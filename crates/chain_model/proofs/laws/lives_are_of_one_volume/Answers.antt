use Rattle.chain_model.proofs.LifeSteps.{happenings, lives}
use Rattle.chain_model.proofs.laws.lives_are_of_one_volume.Goals as goal

pub returns-clause-happenings : goal.returns-clause-happenings
returns-clause-happenings c = happenings

pub returns-clause-lives : goal.returns-clause-lives
returns-clause-lives c = lives
