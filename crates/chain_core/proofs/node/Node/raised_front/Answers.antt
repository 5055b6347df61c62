use Rattle.std.proofs.Common.{Some, ap, subst, sym, ◌≤◌, ◌∙◌}
use Rattle.chain_core.proofs.Sound.{raised_above}
use Rattle.chain_core.proofs.node.Node.raised_front.Goals as goal

pub returns-in-Raised-clause-above : goal.returns-in-Raised-clause-above
returns-in-Raised-clause-above g c =
    subst (λ s. s.state.known ≤ c.number.result) c.self.view_is
    (subst (λ n. c.self.inside.known ≤ n) (sym c.number.ensures.number)
    (raised_above _ _ _ c.in-Raised.front c.self.invariant (c.in-Some.is ∙ ap Some c.in-Raised.is)))
