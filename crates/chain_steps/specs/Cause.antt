-- The numbers of what stops a member.
use Rattle.std.specs.Prelude.{ℕ, Option, Some, None}
use Rattle.disk_model.specs.Error as device
use Rattle.chain_steps.specs.declared.cause.Cause.{Cause}
use Rattle.chain_steps.specs.declared.cause.Cause.TheVariants.{Told, Memory, Device, LastTicket, Disorder}

abbrev pub number_of : Cause → Option ℕ
number_of Told = None
number_of Memory = Some 100
number_of (Device error) = device.number_of error
number_of LastTicket = Some 154
number_of Disorder = None
