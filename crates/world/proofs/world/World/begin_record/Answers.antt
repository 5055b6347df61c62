use Rattle.world.proofs.CallSteps.{moved_did, moved_so, rested}
use Rattle.world.proofs.world.World.begin_record.Goals as goal

pub returns-clause-begun : goal.returns-clause-begun
returns-clause-begun g c = λ yes. rw (← c.self.view_is) (moved_did _ _ _ _ _ (c.begin_record.ensures.begun yes))

pub returns-clause-idle : goal.returns-clause-idle
returns-clause-idle g c = λ no. rw (← c.self.view_is) (
    let idle = c.begin_record.ensures.idle no in
    (idle.0, rested _ _ _ _ _ idle.1))

pub returns-clause-one_volume : goal.returns-clause-one_volume
returns-clause-one_volume g c = λ premise. rw (← c.self.view_is) (moved_so _ _ _ _ _ (c.begin_record.ensures.one_volume premise))
