-- The numbers of the refusals.
use Rattle.std.specs.Prelude.{ℕ}
use Rattle.version_table.specs.declared.refusal.Refusal.{Refusal}
use Rattle.version_table.specs.declared.refusal.Refusal.TheVariants.{Memory, TableFull}

abbrev pub number_of : Refusal → ℕ
number_of Memory = 100
number_of TableFull = 141
