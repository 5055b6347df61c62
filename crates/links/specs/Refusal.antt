-- The numbers of the refusals.
use Rattle.std.specs.Prelude.{ℕ}
use Rattle.links.specs.declared.refusal.Refusal.{Refusal}
use Rattle.links.specs.declared.refusal.Refusal.TheVariants.{Memory, LinkClosed}

-- the number of a refusal
abbrev pub number_of : Refusal → ℕ
number_of Memory = 100
number_of LinkClosed = 211
