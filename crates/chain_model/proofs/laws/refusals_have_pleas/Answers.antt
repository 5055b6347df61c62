use Rattle.chain_model.proofs.RefusingSteps as refusing
use Rattle.chain_model.proofs.laws.refusals_have_pleas.Goals as goal

pub returns-clause-refusals : goal.returns-clause-refusals
returns-clause-refusals c = refusing.refusals_have_pleas

pub returns-clause-stops : goal.returns-clause-stops
returns-clause-stops c = refusing.stops_have_causes
