use Rattle.std.proofs.Common.{sym}
use Rattle.chain_steps.proofs.Firsts.{taken_out}
use Rattle.chain_steps.proofs.tokens.Tokens.take_out.Goals as goal

pub returns : goal.returns
returns c = taken_out _ _ _ c.args.at c.remove.result (sym c.self.view_is) c.remove.ensures.value c.remove.ensures.items
