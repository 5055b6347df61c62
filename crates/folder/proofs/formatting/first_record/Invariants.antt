use Rattle.std.proofs.Common.{◌≡◌, map}
use Rattle.std.specs.List.{range_with_len}
use Rattle.folder.specs.Chain.{first_member}
use Rattle.folder.proofs.formatting.first_record.Given as goal

abbrev pub invariant-loop-number : goal.invariant-loop-number
invariant-loop-number l = l.chain.items ≡ map first_member (range_with_len 0 l.number)
