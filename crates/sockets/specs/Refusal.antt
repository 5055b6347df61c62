-- The numbers of the refusals.
use Rattle.std.specs.Prelude.{ℕ}
use Rattle.sockets.specs.declared.refusal.Refusal.{Refusal}
use Rattle.sockets.specs.declared.refusal.Refusal.TheVariants.{ListenFault}

-- the number of a refusal
abbrev pub number_of : Refusal → ℕ
number_of (ListenFault reason) = 302
