use Rattle.gate_journal.proofs.PairSteps.{emptied, filled}
use Rattle.gate_journal.proofs.laws.stores_leave_old_or_new.Goals as goal

pub returns-clause-old : goal.returns-clause-old
returns-clause-old c = λ slots. (emptied slots.first slots.second).0

pub returns-clause-new : goal.returns-clause-new
returns-clause-new c = λ slots new is. (filled slots.first slots.second new is).0
