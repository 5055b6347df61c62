use Rattle.std.proofs.Common.{refl, ◌∙◌}
use Rattle.std.specs.Prelude.{None}
use Rattle.world.proofs.CallSteps.{quiet_same}
use Rattle.world.proofs.management.Management.tell.Goals as goal

pub returns-in_default-clause-idle : goal.returns-in_default-clause-idle
returns-in_default-clause-idle g c = ((λ slot due. c.in_default.not-Tell slot (c.next.ensures ∙ due)), (refl, refl))

pub returns-in_default-clause-one_volume : goal.returns-in_default-clause-one_volume
returns-in_default-clause-one_volume g c = λ premise. quiet_same c.args.world.now c.args.world.now None refl refl
