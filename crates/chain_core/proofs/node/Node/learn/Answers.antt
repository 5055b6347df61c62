use Rattle.chain_core.proofs.Sound.{sound_learned}
use Rattle.chain_core.proofs.node.Node.learn.Goals as goal

pub invariant_of-self : goal.invariant_of-self
invariant_of-self g c = rw c.learn.ensures (sound_learned _ _ _ c.self.invariant c.args.origin.ticket c.args.n)
