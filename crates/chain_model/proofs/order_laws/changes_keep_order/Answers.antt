use Rattle.chain_model.proofs.TurningTops.{head_told_stands, record_stands, told_stands}
use Rattle.chain_model.proofs.order_laws.changes_keep_order.Goals as goal

pub returns-clause-record : goal.returns-clause-record
returns-clause-record c = record_stands

pub returns-clause-head : goal.returns-clause-head
returns-clause-head c = head_told_stands

pub returns-clause-told : goal.returns-clause-told
returns-clause-told c = told_stands
