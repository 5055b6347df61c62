use Rattle.chain_model.proofs.LifeSteps.{begins_join, ends_join}
use Rattle.chain_model.proofs.laws.joins_are_of_one_volume.Goals as goal

pub returns-clause-begins : goal.returns-clause-begins
returns-clause-begins c = begins_join

pub returns-clause-ends : goal.returns-clause-ends
returns-clause-ends c = ends_join
