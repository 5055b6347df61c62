use Rattle.std.proofs.Common.{ap, sym, subst, ◌+◌, ◌≤◌, ◌∙◌}
use Rattle.chain_steps.specs.declared.waiting.Waiting.TheVariants.{Read}
use Rattle.chain_core.specs.Node.{size_of}
use Rattle.chain_core.proofs.Sound.{sound_pushed}
use Rattle.chain_core.proofs.node.Node.read_asked.Goals as goal

pub invariant_of-self : goal.invariant_of-self
invariant_of-self g c = rw c.in-Ok.ensures.ok (sound_pushed _ _ _ c.self.invariant c.self.inside.ticket (Read c.args.offset c.args.length c.args.token) (c.requires.of_board ∙ ap (λ s. s.state.board) (sym c.self.view_is))
    (subst (λ s. c.args.offset + c.args.length ≤ size_of (g.S.StoreLike.about s.store)) (sym c.self.view_is) c.requires.within))

pub invariant_of-self-in-Err : goal.invariant_of-self-in-Err
invariant_of-self-in-Err g c = rw c.in-Err.ensures.err c.self.invariant
