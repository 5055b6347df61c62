use Rattle.std.proofs.Common.{◌≡◌}
use Rattle.chain_steps.specs.Waiting.{bound}
use Rattle.chain_steps.proofs.Maps.{changed_upto}
use Rattle.chain_steps.proofs.tokens.Tokens.bind.Given as goal

-- the loop has changed those that it has passed
abbrev pub invariant-loop-token : goal.invariant-loop-token
invariant-loop-token l = l.token-items ≡ changed_upto (bound l.front.number) l.token-index l.fn.self
