use Rattle.std.proofs.Common.{◌≡◌, ◌≤◌, ◌∙◌, Some, ap, arith, inl, subst, sym, true}
use Rattle.std.specs.Prelude.{max}
use Rattle.chain_steps.specs.Node.{last_of}
use Rattle.chain_steps.specs.Steps.{know, looked_front}
use Rattle.chain_core.specs.Node.{IsStep, IsStepOrStop}
use Rattle.chain_core.proofs.HeldFronts.{hold_is}
use Rattle.chain_core.proofs.Sound.{sound_holding}
use Rattle.chain_core.proofs.node.Node.hold.Goals as goal

pub invariant_of-self : goal.invariant_of-self
invariant_of-self g c = sound_holding _ _ _ c.self-in-Ok.invariant _

pub returns-in-Ok : goal.returns-in-Ok
returns-in-Ok g c =
    let now = c.args.self.now in
    let front = c.in-Some.front in
    let some : looked_front now.state.found ≡ Some front = sym c.looked_front.ensures ∙ c.in-Some.is in
    let within : front ≤ last_of now.state = subst (λ s. front ≤ last_of s.state) c.self.view_is (omega (arith, c.if-front-applied.false, c.applied.ensures)) in
    let known = c.max-known.ensures ∙ ap (λ s. max s.state.known front) c.self.view_is in
    let is = subst (λ n. IsStep now c.try_know.new.self c.in-Ok.out (know front n now.state)) known c.in-Ok.ensures.step in
    record {
      step = subst (IsStepOrStop now _ c.in-Ok.out) (sym (hold_is now.state front some within)) (inl (record {
        node = ap (λ s. record { store = s.store; state = record s.state { holds = true } }) (c.self-in-Ok.view_is ∙ is.node);
        sent = is.sent;
      }));
    }
