-- The numbers of the refusals.
use Rattle.std.specs.Prelude.{ℕ}
use Rattle.serving.specs.declared.refusal.Refusal.{Refusal}
use Rattle.serving.specs.declared.refusal.Refusal.TheVariants.{Memory}

abbrev pub number_of : Refusal → ℕ
number_of Memory = 100
