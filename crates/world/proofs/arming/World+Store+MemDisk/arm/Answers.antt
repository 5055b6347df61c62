use Rattle.world.proofs.AlikeSteps.{alike_changed}
use Rattle.world.proofs.CallSteps.{moved_did, moved_joined, moved_so}
use Rattle.world.proofs.Results.{err_as, ok_as}
use Rattle.world.proofs.arming.World+Store+MemDisk.arm.Goals as goal

pub invariant_of-self : goal.invariant_of-self
invariant_of-self c = moved_joined _ _ _ _ _ (alike_changed c.args.at _ _ _ c.arm.ensures.armed) c.self.invariant

pub returns-clause-ok : goal.returns-clause-ok
returns-clause-ok c = rw (← c.self.view_is) (ok_as c.arm.result _ _ c.arm.ensures.ok (λ r did. moved_did _ _ _ _ _ did))

pub returns-clause-err : goal.returns-clause-err
returns-clause-err c = rw (← c.self.view_is) (err_as c.arm.result _ _ c.arm.ensures.err (λ r did. moved_did _ _ _ _ _ did))

pub returns-clause-armed : goal.returns-clause-armed
returns-clause-armed c = rw (← c.self.view_is) (moved_did _ _ _ _ _ c.arm.ensures.armed)

pub returns-clause-one_volume : goal.returns-clause-one_volume
returns-clause-one_volume c = rw (← c.self.view_is) (moved_so _ _ _ _ _ c.arm.ensures.one_volume)
