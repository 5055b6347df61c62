-- The numbers of the errors.
use Rattle.std.specs.Prelude.{ℕ}
use Rattle.flush_barrier.specs.declared.error_code.ErrorCode.{ErrorCode}
use Rattle.flush_barrier.specs.declared.error_code.ErrorCode.TheVariants.{Io, NoMemory}

-- the number of an error in an NBD simple reply
abbrev pub number_of : ErrorCode → ℕ
number_of Io = 5
number_of NoMemory = 12
