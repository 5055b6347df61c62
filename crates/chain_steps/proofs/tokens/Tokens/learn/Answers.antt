use Rattle.chain_steps.specs.Waiting.{learned}
use Rattle.chain_steps.proofs.Maps.{one_more}
use Rattle.chain_steps.proofs.tokens.Tokens.learn.Goals as goal

pub loop-token-preserved : goal.loop-token-preserved
loop-token-preserved c = one_more (learned c.args.ticket c.args.n) c.args.self.now _ c.loop-token.token-index _ c.token-item.result c.learn.new.self c.loop-token.invariant c.loop-token.auto.token-items c.loop-token-test.true c.learn.ensures
