-- The numbers of the refusals.
use Rattle.std.specs.Prelude.{ℕ}
use Rattle.volume.specs.declared.refusal.Refusal.{Refusal}
use Rattle.volume.specs.declared.refusal.Refusal.TheVariants.{BadBlocks, BadPayload, AreaTooSmall}

abbrev pub number_of : Refusal → ℕ
number_of BadBlocks = 111
number_of BadPayload = 112
number_of AreaTooSmall = 113
