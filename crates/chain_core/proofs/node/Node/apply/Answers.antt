use Rattle.std.proofs.Common.{sym, subst, ◌≡◌, false}
use Rattle.volume.specs.Writes.{Fits}
use Rattle.chain_steps.specs.Steps.{is_full}
use Rattle.chain_core.specs.Node.{size_of}
use Rattle.chain_core.proofs.Sound.{sound_applied, sound_idle}
use Rattle.chain_core.proofs.node.Node.apply.Goals as goal

pub invariant_of-self : goal.invariant_of-self
invariant_of-self g c =
    let fits = subst (λ s. Fits (size_of (g.S.StoreLike.about s.store)) c.args.write.now) (sym c.self.view_is) c.requires.inside in
    let room = subst (λ s. is_full c.args.write.now s.state ≡ false) (sym c.self.view_is) c.requires.room in
    rw c.in-Ok-apply.ensures.applied (sound_applied _ _ _ c.self.invariant c.args.n c.args.write.now c.args.origin fits c.requires.some room)

pub invariant_of-self-in-Err : goal.invariant_of-self-in-Err
invariant_of-self-in-Err g c = rw c.in-Err.ensures.err (sound_idle _ _ _ c.self.invariant)
