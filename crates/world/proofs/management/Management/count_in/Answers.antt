use Rattle.std.proofs.Common.{◌∙◌, inl, refl}
use Rattle.world.proofs.InnerSteps.{rests_so}
use Rattle.world.proofs.management.Management.count_in.Goals as goal

pub returns-in_default : goal.returns-in_default
returns-in_default g c = record {
  counted = tt;
  idle = (inl (λ due. c.in_default.not-CountIn (g.S.StoreLike.about c.args.store).slot (c.next.ensures ∙ due)), (refl, (refl, (refl, refl))));
  one_volume = λ premise copy. rests_so _ _ _ _ _ refl;
}

pub returns-then-ne-clause-one_volume : goal.returns-then-ne-clause-one_volume
returns-then-ne-clause-one_volume g c = λ premise copy. rests_so _ _ _ _ _ refl

pub returns-in_default-tail-clause-one_volume : goal.returns-in_default-tail-clause-one_volume
returns-in_default-tail-clause-one_volume g c = λ premise copy. rests_so _ _ _ _ _ refl

pub returns-in_err-count_in-clause-one_volume : goal.returns-in_err-count_in-clause-one_volume
returns-in_err-count_in-clause-one_volume g c = λ premise copy. rests_so _ _ _ _ _ c.in_err-count_in.ensures.back.1.1.1

pub returns-clause-one_volume : goal.returns-clause-one_volume
returns-clause-one_volume g c = λ premise copy. c.in_ok-count_in.ensures.one_volume premise (copy c.in-Some.at c.in-Some.ensures.there)
