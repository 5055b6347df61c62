-- The numbers of the refusals.
use Rattle.std.specs.Prelude.{ℕ}
use Rattle.recovery.specs.declared.refusal.Refusal.{Refusal}
use Rattle.recovery.specs.declared.refusal.Refusal.TheVariants.{NoneReturned, NotInChain}

-- the number of a refusal
abbrev pub number_of : Refusal → ℕ
number_of NoneReturned = 191
number_of NotInChain = 192
