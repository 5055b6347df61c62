use Rattle.gate_journal.proofs.Readings.{one_reading}
use Rattle.gate_journal.proofs.laws.readings_are_one.Goals as goal

pub returns : goal.returns
returns c = one_reading
