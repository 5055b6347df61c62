-- The numbers of the refusals.
use Rattle.std.specs.Prelude.{ℕ}
use Rattle.manager.specs.declared.refusal.Refusal.{Refusal}
use Rattle.manager.specs.declared.refusal.Refusal.TheVariants.{Memory, NotMember, NotNext, BadMembers, OneAtATime, LastMember, NotStopped, SlotInUse}

-- the number of a refusal
abbrev pub number_of : Refusal → ℕ
number_of Memory = 100
number_of NotMember = 151
number_of NotNext = 162
number_of BadMembers = 163
number_of OneAtATime = 171
number_of LastMember = 172
number_of NotStopped = 173
number_of SlotInUse = 174
