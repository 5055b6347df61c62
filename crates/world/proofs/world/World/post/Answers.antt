use Rattle.world.proofs.CallSteps.{moved_did, moved_so}
use Rattle.world.proofs.world.World.post.Goals as goal

pub returns-clause-posted : goal.returns-clause-posted
returns-clause-posted g c = λ yes. rw (← c.self.view_is) (moved_did _ _ _ _ _ (c.post.ensures.posted yes))

pub returns-clause-none : goal.returns-clause-none
returns-clause-none g c = λ no. rw (← c.self.view_is) (moved_did _ _ _ _ _ (c.post.ensures.none no))

pub returns-clause-one_volume : goal.returns-clause-one_volume
returns-clause-one_volume g c = λ premise. rw (← c.self.view_is) (moved_so _ _ _ _ _ (c.post.ensures.one_volume premise))
