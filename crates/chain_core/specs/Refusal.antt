-- The numbers of the refusals.
use Rattle.std.specs.Prelude.{ℕ}
use Rattle.chain_core.specs.declared.refusal.Refusal.{Refusal}
use Rattle.chain_core.specs.declared.refusal.Refusal.TheVariants.{Memory, Full, NotMember, Early, Busy, Stopped}

abbrev pub number_of : Refusal → ℕ
number_of Memory = 100
number_of Full = 121
number_of NotMember = 151
number_of Early = 152
number_of Busy = 153
number_of Stopped = 154
