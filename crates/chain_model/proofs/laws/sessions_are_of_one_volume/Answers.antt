use Rattle.chain_model.proofs.BoardSteps.{connects, forgets, sends_all, takes_up}
use Rattle.chain_model.proofs.laws.sessions_are_of_one_volume.Goals as goal

pub returns-clause-connects : goal.returns-clause-connects
returns-clause-connects c = connects

pub returns-clause-forgets : goal.returns-clause-forgets
returns-clause-forgets c = forgets

pub returns-clause-sends : goal.returns-clause-sends
returns-clause-sends c = sends_all

pub returns-clause-takes_up : goal.returns-clause-takes_up
returns-clause-takes_up c = takes_up
