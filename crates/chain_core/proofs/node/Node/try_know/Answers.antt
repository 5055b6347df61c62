use Rattle.std.proofs.Common.{arith, sym, subst, ◌≤◌}
use Rattle.std.specs.Prelude.{not}
use Rattle.chain_steps.specs.Waiting.{is_committed}
use Rattle.chain_steps.specs.Node.{last_of}
use Rattle.chain_core.proofs.Sound.{sound_known}
use Rattle.chain_core.proofs.node.Node.try_know.Goals as goal

pub invariant_of-self : goal.invariant_of-self
invariant_of-self g c = rw c.settle.ensures.left
    (sound_known _ _ _ c.self.invariant c.args.known (λ w. not (is_committed c.args.known w))
    (subst (λ s. s.state.known ≤ c.args.known) (sym c.self.view_is) c.requires.above)
    (subst (λ s. c.args.known ≤ last_of s.state) (sym c.self.view_is) c.requires.applied))

pub returns-clause-step : goal.returns-clause-step
returns-clause-step g c = record { node = grind (arith, c.self.view_is, c.settle.ensures.left); sent = grind (arith, c.self.view_is, c.send.ensures, c.settle.ensures.answered) }
