use Rattle.world.proofs.AlikeSteps.{alike_changed}
use Rattle.world.proofs.CallSteps.{quiet_so, rests_lead, rests_or_lacks, told_did, told_joined, told_so}
use Rattle.world.proofs.world.World.answer_front.Goals as goal

pub returns-in_err-replies-clause-any_moment : goal.returns-in_err-replies-clause-any_moment
returns-in_err-replies-clause-any_moment g c = λ premise. rw (← c.self.view_is) (c.answer_front.ensures.any_moment premise)

pub returns-in_err-replies-clause-one_volume : goal.returns-in_err-replies-clause-one_volume
returns-in_err-replies-clause-one_volume g c = λ premise. rw (← c.self.view_is) (quiet_so _ _ _ _ _ c.from_residual.result c.from_residual.ensures (rests_lead _ _ (rests_or_lacks c.args.at _ _ c.in_err-replies.ensures.idle)))

pub invariant_of-self-2 : goal.invariant_of-self-2
invariant_of-self-2 g c = told_joined _ _ _ _ _ _ c.tell.result _ c.tell.ensures (alike_changed c.args.at _ _ _ c.in_ok-replies.ensures.answered) c.self.invariant

pub returns-clause-any_moment : goal.returns-clause-any_moment
returns-clause-any_moment g c = λ premise. rw (← c.self.view_is) (c.answer_front.ensures.any_moment premise)

pub returns-clause-one_volume : goal.returns-clause-one_volume
returns-clause-one_volume g c = λ premise. rw (← c.self.view_is) (told_so _ _ _ _ _ _ c.tell.result _ c.tell.ensures (c.in_ok-replies.ensures.one_volume premise))

pub returns-clause-answered : goal.returns-clause-answered
returns-clause-answered g c = rw (← c.self.view_is) (told_did _ _ _ _ _ _ c.tell.result _ c.tell.ensures c.in_ok-replies.ensures.answered)
