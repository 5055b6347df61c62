use Rattle.world.proofs.CallSteps.{moved_did, moved_so}
use Rattle.world.proofs.world.World.raise.Goals as goal

pub returns-clause-raised : goal.returns-clause-raised
returns-clause-raised g c = λ yes. rw (← c.self.view_is) (moved_did _ _ _ _ _ (c.raise.ensures.raised yes))

pub returns-clause-idle : goal.returns-clause-idle
returns-clause-idle g c = λ no. rw (← c.self.view_is) (moved_did _ _ _ _ _ (c.raise.ensures.idle no))

pub returns-clause-one_volume : goal.returns-clause-one_volume
returns-clause-one_volume g c = λ premise. rw (← c.self.view_is) (moved_so _ _ _ _ _ (c.raise.ensures.one_volume premise))
