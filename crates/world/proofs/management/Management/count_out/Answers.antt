use Rattle.std.proofs.Common.{refl, ◌∙◌}
use Rattle.world.proofs.InnerSteps.{rests_so}
use Rattle.world.proofs.management.Management.count_out.Goals as goal

pub returns-in_default-clause-idle : goal.returns-in_default-clause-idle
returns-in_default-clause-idle g c = λ isnt. ((λ slot due left. c.in_default.not-CountOut slot (c.next.ensures ∙ due)), (refl, refl))

pub returns-in_default-clause-one_volume : goal.returns-in_default-clause-one_volume
returns-in_default-clause-one_volume g c = λ premise. rests_so _ _ _ _ _ refl
