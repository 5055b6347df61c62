use Rattle.chain_model.proofs.LinkSteps.{deliver_shows, drop_shows, head_learn_shows, join_shows, learn_shows, remove_shows, work_shows}
use Rattle.chain_model.proofs.order_laws.slots_show_order.Goals as goal

pub returns-clause-deliver : goal.returns-clause-deliver
returns-clause-deliver c = deliver_shows

pub returns-clause-work : goal.returns-clause-work
returns-clause-work c = work_shows

pub returns-clause-drop : goal.returns-clause-drop
returns-clause-drop c = drop_shows

pub returns-clause-remove : goal.returns-clause-remove
returns-clause-remove c = remove_shows

pub returns-clause-learn : goal.returns-clause-learn
returns-clause-learn c = learn_shows

pub returns-clause-head : goal.returns-clause-head
returns-clause-head c = head_learn_shows

pub returns-clause-join : goal.returns-clause-join
returns-clause-join c = join_shows
