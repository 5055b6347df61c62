use Rattle.world.proofs.CallSteps.{moved_did, moved_so}
use Rattle.world.proofs.world.World.look.Goals as goal

pub returns-clause-looked : goal.returns-clause-looked
returns-clause-looked g c = λ yes. rw (← c.self.view_is) (moved_did _ _ _ _ _ (c.look.ensures.looked yes))

pub returns-clause-stopped : goal.returns-clause-stopped
returns-clause-stopped g c = λ no. rw (← c.self.view_is) (moved_did _ _ _ _ _ (c.look.ensures.stopped no))

pub returns-clause-one_volume : goal.returns-clause-one_volume
returns-clause-one_volume g c = λ premise. rw (← c.self.view_is) (moved_so _ _ _ _ _ (c.look.ensures.one_volume premise))
