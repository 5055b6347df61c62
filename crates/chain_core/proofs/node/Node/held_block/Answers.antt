use Rattle.std.proofs.Common.{ap, ◌∙◌}
use Rattle.chain_core.proofs.SoundReads.{sound_read}
use Rattle.chain_core.proofs.node.Node.held_block.Goals as goal

pub invariant_of-self : goal.invariant_of-self
invariant_of-self g c =
    sound_read _ _ _ c.self.invariant (ap (λ s. s.state.stopped) c.self.view_is ∙ c.requires.runs) _ (g.S.StoreLike.keeps c.read_block_at.new.store) c.in-Ok.ensures.about c.in-Ok.ensures.kept (λ here one other. g.met.S.StoreLike.keeps_one here c.read_block_at.new.store one other)

pub invariant_of-self-in-Err-copy_from_slice : goal.invariant_of-self-in-Err-copy_from_slice
invariant_of-self-in-Err-copy_from_slice g c =
    sound_read _ _ _ c.self.invariant (ap (λ s. s.state.stopped) c.self.view_is ∙ c.requires.runs) _ (g.S.StoreLike.keeps c.read_block_at.new.store) c.in-Ok.ensures.about c.in-Ok.ensures.kept (λ here one other. g.met.S.StoreLike.keeps_one here c.read_block_at.new.store one other)
