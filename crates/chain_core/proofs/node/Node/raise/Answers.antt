use Rattle.std.proofs.Common.{ap, subst, sym, ◌≤◌, ◌∙◌}
use Rattle.chain_steps.specs.declared.found.Found.TheVariants.{Raised}
use Rattle.chain_core.proofs.Sound.{sound_keeping}
use Rattle.chain_core.proofs.node.Node.raise.Goals as goal

pub invariant_of-self : goal.invariant_of-self
invariant_of-self g c = sound_keeping _ _ _ c.self.invariant (Raised c.raise-front.result) (
  c.raise-front.ensures.of_seat.0 ∙ c.requires.of_board ∙ ap (λ s. s.state.board) (sym c.self.view_is),
  subst (λ n. n ≤ c.raise-front.result.number) c.applied.ensures c.raise-front.ensures.raised,
)
