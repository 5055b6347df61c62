use Rattle.std.proofs.Common.{◌∙◌, ap, false, sym}
use Rattle.chain_core.proofs.Sound.{sound_placed}
use Rattle.chain_core.proofs.node.Node.move_to.Goals as goal

pub invariant_of-self : goal.invariant_of-self
invariant_of-self g c = sound_placed _ _ _ c.self.invariant c.args.place false false (c.requires ∙ ap (λ s. s.state.place.slot) (sym c.self.view_is))
