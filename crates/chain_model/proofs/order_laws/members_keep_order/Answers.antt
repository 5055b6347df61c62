use Rattle.chain_model.proofs.TurningTops.{learn_stands, number_stands, quiet_stands, raise_stands}
use Rattle.chain_model.proofs.order_laws.members_keep_order.Goals as goal

pub returns-clause-quiet : goal.returns-clause-quiet
returns-clause-quiet c = quiet_stands

pub returns-clause-learn : goal.returns-clause-learn
returns-clause-learn c = learn_stands

pub returns-clause-raise : goal.returns-clause-raise
returns-clause-raise c = raise_stands

pub returns-clause-number : goal.returns-clause-number
returns-clause-number c = number_stands
