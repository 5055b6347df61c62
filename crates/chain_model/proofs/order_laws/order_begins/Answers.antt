use Rattle.chain_model.proofs.TurningFollow.{alike_stands, start_stands}
use Rattle.chain_model.proofs.order_laws.order_begins.Goals as goal

pub returns-clause-start : goal.returns-clause-start
returns-clause-start c = start_stands

pub returns-clause-alike : goal.returns-clause-alike
returns-clause-alike c = alike_stands
