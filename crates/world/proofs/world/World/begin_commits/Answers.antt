use Rattle.chain_core.specs.declared.refusal.Refusal.{Refusal}
use Rattle.world.proofs.AlikeSteps.{alike_changed}
use Rattle.world.proofs.CallSteps.{moved_so, none_lead, refused_if_so, some_lead, some_of, told_joined, told_so}
use Rattle.world.proofs.world.World.begin_commits.Goals as goal

pub returns-in_err-replies-clause-any_moment : goal.returns-in_err-replies-clause-any_moment
returns-in_err-replies-clause-any_moment g c = λ premise. rw (← c.self.view_is) (c.in_err-replies.ensures.any_moment premise)

pub returns-in_err-replies-clause-one_volume : goal.returns-in_err-replies-clause-one_volume
returns-in_err-replies-clause-one_volume g c = λ premise. rw (← c.self.view_is) (refused_if_so _ _ _ _ _ c.from_residual.result (λ told. told) c.from_residual.ensures.0 (c.in_err-replies.ensures.one_volume premise))

pub returns-in_default-clause-any_moment : goal.returns-in_default-clause-any_moment
returns-in_default-clause-any_moment g c = λ premise. rw (← c.self.view_is) (c.in_ok-replies.ensures.any_moment premise)

pub returns-in_default-clause-one_volume : goal.returns-in_default-clause-one_volume
returns-in_default-clause-one_volume g c = λ premise. rw (← c.self.view_is) (moved_so _ _ _ _ _ (none_lead Refusal _ _ c.in_ok-replies.field-0 (λ replies. replies.items) c.in_default.is (c.in_ok-replies.ensures.one_volume premise)))

pub invariant_of-self-2 : goal.invariant_of-self-2
invariant_of-self-2 g c = told_joined _ _ _ _ _ _ c.tell.result _ c.tell.ensures (alike_changed c.args.at _ _ _ (some_of _ c.in_ok-replies.field-0 c.in-Some.replies c.in-Some.is c.in_ok-replies.ensures.done)) c.self.invariant

pub returns-clause-any_moment : goal.returns-clause-any_moment
returns-clause-any_moment g c = λ premise. rw (← c.self.view_is) (c.in_ok-replies.ensures.any_moment premise)

pub returns-clause-one_volume : goal.returns-clause-one_volume
returns-clause-one_volume g c = λ premise. rw (← c.self.view_is) (told_so _ _ _ _ _ _ c.tell.result _ c.tell.ensures (some_lead Refusal _ _ c.in_ok-replies.field-0 c.in-Some.replies (λ replies. replies.items) c.in-Some.is (c.in_ok-replies.ensures.one_volume premise)))
