use Rattle.world.proofs.AlikeSteps.{alike_told}
use Rattle.world.proofs.CallSteps.{moved_so, told_joined, told_so}
use Rattle.world.proofs.world.World.tell.Goals as goal

pub invariant_of-self : goal.invariant_of-self
invariant_of-self g c = told_joined _ _ _ _ _ _ c.tell-in-Ok.result _ c.tell-in-Ok.ensures (alike_told c.args.at _ _ _ c.in-Ok.ensures.told) c.self.invariant

pub returns-in-Ok-clause-one_volume : goal.returns-in-Ok-clause-one_volume
returns-in-Ok-clause-one_volume g c = λ premise. rw (← c.self.view_is) (told_so _ _ _ _ _ _ c.tell-in-Ok.result _ c.tell-in-Ok.ensures (c.in-Ok.ensures.one_volume premise))

pub returns-in-Err-clause-one_volume : goal.returns-in-Err-clause-one_volume
returns-in-Err-clause-one_volume g c = λ premise. rw (← c.self.view_is) (moved_so _ _ _ _ _ (c.in-Err.ensures.one_volume premise))
