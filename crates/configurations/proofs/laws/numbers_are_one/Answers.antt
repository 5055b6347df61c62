use Rattle.std.proofs.Common.{ap, sym, ◌∙◌}
use Rattle.gate_journal.specs.Pair.{Slots, last_number, newest}
use Rattle.configurations.proofs.laws.numbers_are_one.Goals as goal

pub returns : goal.returns
returns c = λ some other number another bytes holds holds'.
    sym holds.numbered ∙ ap (λ (slots : Slots). last_number (newest slots)) (c.pair_readings_are_one.ensures holds.slots holds'.slots bytes holds.holds holds'.holds) ∙ holds'.numbered
