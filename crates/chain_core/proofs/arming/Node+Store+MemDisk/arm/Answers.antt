use Rattle.local_store.specs.Kept.{one_volume}
use Rattle.chain_core.proofs.ArmedSteps.{sound_armed}
use Rattle.chain_core.proofs.arming.Node+Store+MemDisk.arm.Goals as goal

pub invariant_of-self : goal.invariant_of-self
invariant_of-self c = let stays = c.arm.ensures.stays in sound_armed _ _ _ c.self.invariant _ _ stays.tells stays.kept (λ premise one other kept too. one_volume kept too)
