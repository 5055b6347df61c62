use Rattle.std.proofs.Common.{ap, sym, ◌∙◌}
use Rattle.chain_steps.specs.declared.waiting.Waiting.TheVariants.{Flush}
use Rattle.chain_core.proofs.Sound.{sound_pushed}
use Rattle.chain_core.proofs.node.Node.flush.Goals as goal

pub invariant_of-self : goal.invariant_of-self
invariant_of-self g c = rw c.in-Ok.ensures.ok (sound_pushed _ _ _ c.self.invariant c.self.inside.ticket (Flush c.args.token) (c.requires ∙ ap (λ s. s.state.board) (sym c.self.view_is)) tt)

pub invariant_of-self-in-Err : goal.invariant_of-self-in-Err
invariant_of-self-in-Err g c = rw c.in-Err.ensures.err c.self.invariant
