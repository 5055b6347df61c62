use Rattle.world_model.proofs.Runs.{last_is_last_lem, last_is_answered_lem, flushes_owe}
use Rattle.world_model.proofs.laws.flushes_owe.Goals as goal

pub returns-clause-last : goal.returns-clause-last
returns-clause-last c = last_is_last_lem

pub returns-clause-answered : goal.returns-clause-answered
returns-clause-answered c = last_is_answered_lem

pub returns-clause-owed : goal.returns-clause-owed
returns-clause-owed c = flushes_owe
