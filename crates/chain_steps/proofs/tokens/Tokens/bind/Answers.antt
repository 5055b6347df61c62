use Rattle.chain_steps.specs.Waiting.{bound}
use Rattle.chain_steps.proofs.Maps.{one_more}
use Rattle.chain_steps.proofs.tokens.Tokens.bind.Goals as goal

pub loop-token-preserved : goal.loop-token-preserved
loop-token-preserved c = one_more (bound c.args.front.now.number) c.args.self.now _ c.loop-token.token-index _ c.token-item.result c.bind.new.self c.loop-token.invariant c.loop-token.auto.token-items c.loop-token-test.true c.bind.ensures
