use Rattle.std.proofs.Common.{◌≡◌, ◌≤◌, length, take}
use Rattle.std.specs.Prelude.{filter}
use Rattle.chain_steps.specs.Waiting.{is_outdated}
use Rattle.chain_steps.proofs.tokens.Tokens.count_outdated.Given as goal

-- those counted are among those that the loop has passed
abbrev pub invariant-loop-token : goal.invariant-loop-token
invariant-loop-token l = (l.count ≡ length (filter (is_outdated l.epoch) (take l.token-index l.fn.self))) × (l.count ≤ l.token-index)
