use Rattle.std.specs.Prelude.{not}
use Rattle.chain_steps.specs.Waiting.{is_outdated}
use Rattle.chain_core.proofs.Sound.{sound_turned}
use Rattle.chain_core.proofs.node.Node.turn.Goals as goal

pub invariant_of-self : goal.invariant_of-self
invariant_of-self g c = rw c.refuse_outdated.ensures.left (sound_turned _ _ _ c.self.invariant (λ w. not (is_outdated c.number-epoch.result w)))
