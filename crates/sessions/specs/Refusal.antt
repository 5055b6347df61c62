-- The numbers of the refusals.
use Rattle.std.specs.Prelude.{ℕ}
use Rattle.sessions.specs.declared.refusal.Refusal.{Refusal}
use Rattle.sessions.specs.declared.refusal.Refusal.TheVariants.{Memory}

-- the number of a refusal
abbrev pub number_of : Refusal → ℕ
number_of Memory = 100
