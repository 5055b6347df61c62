use Rattle.home_blocks.proofs.Payloads.{a_volume, another, not_another}
use Rattle.home_blocks.proofs.laws.disks_have_one_answer.Goals as goal

pub returns-clause-version : goal.returns-clause-version
returns-clause-version c = λ sb bytes is other. not_another c.pair_readings_are_one.ensures bytes sb is.holds other

pub returns-clause-none : goal.returns-clause-none
returns-clause-none c = λ sb bytes is none. a_volume c.pair_readings_are_one.ensures bytes sb is none

pub returns-clause-neither : goal.returns-clause-neither
returns-clause-neither c = λ bytes is none. another c.pair_readings_are_one.ensures bytes is none
