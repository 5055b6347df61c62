use Rattle.gate_journal.specs.Pair.{slot_bytes}
use Rattle.gate_journal.proofs.Entries.{one_entry}
use Rattle.gate_journal.proofs.laws.pair_readings_are_one.Goals as goal

pub returns : goal.returns
returns c = λ some others bytes holds holds'.
    let first = one_entry some.first others.first (slot_bytes 0 bytes) holds.first holds'.first in
    let second = one_entry some.second others.second (slot_bytes 1 bytes) holds.second holds'.second in
    λ i. record { first = first i; second = second i }
