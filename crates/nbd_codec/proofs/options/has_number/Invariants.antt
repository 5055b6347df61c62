use Rattle.std.proofs.Common.{◌≡◌, length}
use Rattle.std.specs.Prelude.{◌==◌}
use Rattle.std.specs.List.{list_any}
use Rattle.nbd_codec.specs.ClientOption.{numbers_in}
use Rattle.nbd_codec.proofs.options.has_number.Given as goal

-- a number that was passed by isn't the one that is sought
abbrev pub invariant-loop-rest : goal.invariant-loop-rest
invariant-loop-rest l = list_any (λ n. n == l.number) (numbers_in l.bytes) ≡ list_any (λ n. n == l.number) (numbers_in l.rest)

abbrev pub decreases-loop-rest : goal.decreases-loop-rest
decreases-loop-rest l = length l.rest
