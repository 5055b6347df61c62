use Rattle.world.proofs.AlikeSteps.{alike_changed}
use Rattle.world.proofs.CallSteps.{refused_so, told_did, told_joined, told_so}
use Rattle.world.proofs.world.World.tick.Goals as goal

pub returns-in_err-replies-clause-any_moment : goal.returns-in_err-replies-clause-any_moment
returns-in_err-replies-clause-any_moment g c = λ premise. rw (← c.self.view_is) (c.tick.ensures.any_moment premise)

pub returns-in_err-replies-clause-one_volume : goal.returns-in_err-replies-clause-one_volume
returns-in_err-replies-clause-one_volume g c = λ premise. rw (← c.self.view_is) (refused_so _ _ _ _ _ c.from_residual.result (λ r. r.0) c.from_residual.ensures.0 (c.in_err-replies.ensures.one_volume premise))

pub invariant_of-self-2 : goal.invariant_of-self-2
invariant_of-self-2 g c = told_joined _ _ _ _ _ _ c.tell.result _ c.tell.ensures (alike_changed c.args.at _ _ _ c.in_ok-replies.ensures.done) c.self.invariant

pub returns-clause-done : goal.returns-clause-done
returns-clause-done g c = rw (← c.self.view_is) (told_did _ _ _ _ _ _ c.tell.result _ c.tell.ensures c.in_ok-replies.ensures.done)

pub returns-clause-any_moment : goal.returns-clause-any_moment
returns-clause-any_moment g c = λ premise. rw (← c.self.view_is) (c.tick.ensures.any_moment premise)

pub returns-clause-one_volume : goal.returns-clause-one_volume
returns-clause-one_volume g c = λ premise. rw (← c.self.view_is) (told_so _ _ _ _ _ _ c.tell.result _ c.tell.ensures (c.in_ok-replies.ensures.one_volume premise))
