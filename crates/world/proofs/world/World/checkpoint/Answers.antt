use Rattle.world.proofs.AlikeSteps.{alike_changed}
use Rattle.world.proofs.CallSteps.{moved_so, refusal_as, told_joined, told_so}
use Rattle.world.proofs.world.World.checkpoint.Goals as goal

pub invariant_of-self : goal.invariant_of-self
invariant_of-self g c = told_joined _ _ _ _ _ _ c.tell.result _ c.tell.ensures (alike_changed c.args.at _ _ _ c.in-Ok.ensures.done) c.self.invariant

pub returns-in-Ok-clause-any_moment : goal.returns-in-Ok-clause-any_moment
returns-in-Ok-clause-any_moment g c = λ premise. rw (← c.self.view_is) (c.checkpoint.ensures.any_moment premise)

pub returns-in-Ok-clause-one_volume : goal.returns-in-Ok-clause-one_volume
returns-in-Ok-clause-one_volume g c = λ premise. rw (← c.self.view_is) (told_so _ _ _ _ _ _ c.tell.result _ c.tell.ensures (c.in-Ok.ensures.one_volume premise))

pub returns-in-Err-clause-full : goal.returns-in-Err-clause-full
returns-in-Err-clause-full g c = rw (← c.self.view_is) (refusal_as _ c.in-Err.refusal _ c.in-Err.ensures.full)

pub returns-in-Err-clause-any_moment : goal.returns-in-Err-clause-any_moment
returns-in-Err-clause-any_moment g c = λ premise. rw (← c.self.view_is) (c.checkpoint.ensures.any_moment premise)

pub returns-in-Err-clause-one_volume : goal.returns-in-Err-clause-one_volume
returns-in-Err-clause-one_volume g c = λ premise. rw (← c.self.view_is) (moved_so _ _ _ _ _ (c.in-Err.ensures.one_volume premise))
