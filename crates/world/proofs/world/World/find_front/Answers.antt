use Rattle.world.proofs.CallSteps.{moved_did, moved_so}
use Rattle.world.proofs.world.World.find_front.Goals as goal

pub returns-clause-found : goal.returns-clause-found
returns-clause-found g c = λ yes. rw (← c.self.view_is) (moved_did _ _ _ _ _ (c.find_front.ensures.found yes))

pub returns-clause-stopped : goal.returns-clause-stopped
returns-clause-stopped g c = λ no. rw (← c.self.view_is) (moved_did _ _ _ _ _ (c.find_front.ensures.stopped no))

pub returns-clause-one_volume : goal.returns-clause-one_volume
returns-clause-one_volume g c = λ premise. rw (← c.self.view_is) (moved_so _ _ _ _ _ (c.find_front.ensures.one_volume premise))
