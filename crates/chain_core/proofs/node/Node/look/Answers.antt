use Rattle.std.proofs.Common.{ap, sym, ◌∙◌}
use Rattle.chain_steps.specs.declared.found.Found.TheVariants.{Looked}
use Rattle.chain_core.proofs.Sound.{sound_keeping}
use Rattle.chain_core.proofs.node.Node.look.Goals as goal

pub invariant_of-self : goal.invariant_of-self
invariant_of-self g c = sound_keeping _ _ _ c.self.invariant (Looked c.look-front.result) (c.look-front.ensures.of_seat.0 ∙ c.requires.of_board ∙ ap (λ s. s.state.board) (sym c.self.view_is))
