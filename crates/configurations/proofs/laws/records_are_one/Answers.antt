use Rattle.std.proofs.Common.{sym, subst}
use Rattle.gate_journal.specs.Pair.{Slots, newest}
use Rattle.configurations.specs.Store.{Records}
use Rattle.configurations.proofs.Stores.{one_record}
use Rattle.configurations.proofs.laws.records_are_one.Goals as goal

pub returns : goal.returns
returns c = λ some other bytes holds holds'.
    one_record (newest holds.slots) some other holds.newer
    (subst (λ (slots : Slots). Records (newest slots) other) (sym (c.pair_readings_are_one.ensures holds.slots holds'.slots bytes holds.holds holds'.holds)) holds'.newer)
