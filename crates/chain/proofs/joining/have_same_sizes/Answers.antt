use Rattle.chain.proofs.Sizes.{same_sizes}
use Rattle.chain.proofs.joining.have_same_sizes.Goals as goal

pub returns : goal.returns
returns c = same_sizes c.args.one c.args.other c.eq.result c.eq.ensures
