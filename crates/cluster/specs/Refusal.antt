-- The numbers of the refusals.
use Rattle.std.specs.Prelude.{ℕ}
use Rattle.chain_core.specs.declared.refusal.Refusal as chain
use Rattle.chain_core.specs.declared.refusal.Refusal.TheVariants as refusals
use Rattle.flush_barrier.specs.declared.error_code.ErrorCode.{ErrorCode}
use Rattle.flush_barrier.specs.declared.error_code.ErrorCode.TheVariants as codes
use Rattle.cluster.specs.declared.refusal.Refusal.{Refusal}
use Rattle.cluster.specs.declared.refusal.Refusal.TheVariants.{Memory}

abbrev pub number_of : Refusal → ℕ
number_of Memory = 100

-- with what a request is refused that a member didn't take: 12 where memory ran out, else 5
abbrev pub code_of : chain.Refusal → ErrorCode
code_of refusals.Memory = codes.NoMemory
code_of _ = codes.Io
