use Rattle.std.proofs.Common.{refl}
use Rattle.world.proofs.InnerSteps.{rests_so}
use Rattle.world.proofs.management.Management.abandon_join.Goals as goal

pub returns-in_err-abandon_join-clause-one_volume : goal.returns-in_err-abandon_join-clause-one_volume
returns-in_err-abandon_join-clause-one_volume g c = λ premise. rests_so _ _ _ _ _ refl
