use Rattle.std.proofs.Common.{ap, sym, ◌+◌, ◌∙◌}
use Rattle.chain_core.proofs.Sound.{own_submitted, asked_submitted, sound_pushed}
use Rattle.chain_core.proofs.node.Node.submit.Goals as goal

pub invariant_of-self : goal.invariant_of-self
invariant_of-self g c = rw c.in-Ok-push_write.ensures.ok (sound_pushed _ _ _ c.self.invariant (c.self.inside.ticket + 1) _
    (own_submitted _ _ _ c.args.token (c.requires ∙ ap (λ s. s.state.board) (sym c.self.view_is))) (asked_submitted _ _ _ c.args.token))

pub invariant_of-self-in-Err : goal.invariant_of-self-in-Err
invariant_of-self-in-Err g c = rw c.in-Err.ensures.err c.self.invariant
