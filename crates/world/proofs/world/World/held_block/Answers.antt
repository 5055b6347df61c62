use Rattle.world.proofs.AlikeSteps.{alike_changed}
use Rattle.world.proofs.CallSteps.{moved_so, told_joined, told_so}
use Rattle.world.proofs.world.World.held_block.Goals as goal

pub invariant_of-self-in-Err : goal.invariant_of-self-in-Err
invariant_of-self-in-Err g c = told_joined _ _ _ _ _ _ c.tell.result _ c.tell.ensures (alike_changed c.args.at _ _ _ c.in-Err.ensures.stopped) c.self.invariant

pub returns-in-Ok-clause-any_moment : goal.returns-in-Ok-clause-any_moment
returns-in-Ok-clause-any_moment g c = λ premise. rw (← c.self.view_is) (c.held_block.ensures.any_moment premise)

pub returns-in-Ok-clause-one_volume : goal.returns-in-Ok-clause-one_volume
returns-in-Ok-clause-one_volume g c = λ premise. rw (← c.self.view_is) (moved_so _ _ _ _ _ (c.in-Ok.ensures.one_volume premise))

pub returns-in-Err-clause-any_moment : goal.returns-in-Err-clause-any_moment
returns-in-Err-clause-any_moment g c = λ premise. rw (← c.self.view_is) (c.held_block.ensures.any_moment premise)

pub returns-in-Err-clause-one_volume : goal.returns-in-Err-clause-one_volume
returns-in-Err-clause-one_volume g c = λ premise. rw (← c.self.view_is) (told_so _ _ _ _ _ _ c.tell.result _ c.tell.ensures (c.in-Err.ensures.one_volume premise))
