use Rattle.std.proofs.Common.{vec_len}
use Rattle.chain_steps.proofs.tokens.Tokens.abandon.Given as goal

-- the tokens that are left
abbrev pub decreases-loop-token : goal.decreases-loop-token
decreases-loop-token l = vec_len l.waiting
