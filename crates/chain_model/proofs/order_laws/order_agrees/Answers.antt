use Rattle.chain_model.proofs.TurningFollow.{lists_are_nested, puts_are_of_line}
use Rattle.chain_model.proofs.TurningTops.{members_agree, one_raises}
use Rattle.chain_model.proofs.order_laws.order_agrees.Goals as goal

pub returns-clause-one : goal.returns-clause-one
returns-clause-one c = one_raises

pub returns-clause-agree : goal.returns-clause-agree
returns-clause-agree c = members_agree

pub returns-clause-nested : goal.returns-clause-nested
returns-clause-nested c = lists_are_nested

pub returns-clause-puts : goal.returns-clause-puts
returns-clause-puts c = puts_are_of_line
