use Rattle.world.proofs.CallSteps.{moved_did, moved_so}
use Rattle.world.proofs.world.World.crew.Goals as goal

pub returns-clause-mustered : goal.returns-clause-mustered
returns-clause-mustered g c = λ yes. rw (← c.self.view_is) (moved_did _ _ _ _ _ (c.crew.ensures.mustered yes))

pub returns-clause-idle : goal.returns-clause-idle
returns-clause-idle g c = λ no. rw (← c.self.view_is) (moved_did _ _ _ _ _ (c.crew.ensures.idle no))

pub returns-clause-one_volume : goal.returns-clause-one_volume
returns-clause-one_volume g c = λ premise. rw (← c.self.view_is) (moved_so _ _ _ _ _ (c.crew.ensures.one_volume premise))
