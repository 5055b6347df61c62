use Rattle.chain_model.proofs.HoldingSteps.{attach_stands, holders_stay, join_stands}
use Rattle.chain_model.proofs.order_laws.joining_keeps_order.Goals as goal

pub returns-clause-holders : goal.returns-clause-holders
returns-clause-holders c = holders_stay

pub returns-clause-attach : goal.returns-clause-attach
returns-clause-attach c = attach_stands

pub returns-clause-join : goal.returns-clause-join
returns-clause-join c = join_stands
