use Rattle.std.proofs.Common.{ap, ◌∙◌}
use Rattle.chain_core.proofs.SoundReads.{sound_read}
use Rattle.chain_core.proofs.node.Node.range.Goals as goal

pub invariant_of-self : goal.invariant_of-self
invariant_of-self g c =
    sound_read _ _ _ c.self.invariant (ap (λ s. s.state.stopped) c.self.view_is ∙ c.requires.runs) _ (g.S.StoreLike.keeps c.read_range.new.store) c.in-Ok.ensures.about c.in-Ok.ensures.kept (λ here one other. g.met.S.StoreLike.keeps_one here c.read_range.new.store one other)
