use Rattle.std.proofs.Common.{◌≡◌, map, take}
use Rattle.std.specs.Prelude.{filter}
use Rattle.chain_steps.specs.Waiting.{asked_range, is_read}
use Rattle.chain_steps.proofs.tokens.Tokens.asked.Given as goal

-- the ranges of the READs that the loop has passed
abbrev pub invariant-loop-token : goal.invariant-loop-token
invariant-loop-token l = l.ranges.items ≡ map asked_range (filter is_read (take l.token-index l.fn.self))
