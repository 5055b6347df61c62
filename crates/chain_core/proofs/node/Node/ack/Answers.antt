use Rattle.std.proofs.Common.{arith, ap, sym, subst, ◌≤◌, ◌∙◌}
use Rattle.std.specs.Prelude.{max}
use Rattle.chain_steps.specs.Node.{last_of}
use Rattle.chain_steps.specs.Steps.{know}
use Rattle.chain_core.specs.Node.{IsStepOrStop}
use Rattle.chain_core.proofs.Sound.{ack_is}
use Rattle.chain_core.proofs.node.Node.ack.Goals as goal

pub returns-clause-step : goal.returns-clause-step
returns-clause-step g c =
    let within : c.args.front ≤ last_of c.args.self.now.state = subst (λ s. c.args.front ≤ last_of s.state) c.self.view_is (omega (arith, c.if-front-applied.false, c.applied.ensures)) in
    let known = c.max-known.ensures ∙ ap (λ s. max s.state.known c.args.front) c.self.view_is in
    subst (IsStepOrStop c.args.self.now c.know.new.self c.know.result) (sym (ack_is c.args.front c.args.self.now.state within))
    (subst (λ n. IsStepOrStop c.args.self.now c.know.new.self c.know.result (know c.args.front n c.args.self.now.state)) known c.know.ensures.step)
