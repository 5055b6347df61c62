use Rattle.world.proofs.CallSteps.{moved_did, moved_so}
use Rattle.world.proofs.world.World.gauge.Goals as goal

pub returns-clause-gauged : goal.returns-clause-gauged
returns-clause-gauged g c = λ yes. rw (← c.self.view_is) (moved_did _ _ _ _ _ (c.gauge.ensures.gauged yes))

pub returns-clause-idle : goal.returns-clause-idle
returns-clause-idle g c = λ no. rw (← c.self.view_is) (moved_did _ _ _ _ _ (c.gauge.ensures.idle no))

pub returns-clause-one_volume : goal.returns-clause-one_volume
returns-clause-one_volume g c = λ premise. rw (← c.self.view_is) (moved_so _ _ _ _ _ (c.gauge.ensures.one_volume premise))
