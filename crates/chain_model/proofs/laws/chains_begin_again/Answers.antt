use Rattle.chain_model.proofs.RestartSteps.{first_chain, restarts_chain, restarts_from_joiner}
use Rattle.chain_model.proofs.laws.chains_begin_again.Goals as goal

pub returns-clause-first : goal.returns-clause-first
returns-clause-first c = first_chain

pub returns-clause-restarts : goal.returns-clause-restarts
returns-clause-restarts c = restarts_chain

pub returns-clause-joiner : goal.returns-clause-joiner
returns-clause-joiner c = restarts_from_joiner
