use Rattle.std.proofs.Common.{refl}
use Rattle.world.proofs.CallSteps.{moved_alone}
use Rattle.world.proofs.InnerSteps.{rests_so}
use Rattle.world.proofs.JoiningSteps.{is_none}
use Rattle.world.proofs.world.World.count_out.Goals as goal

pub returns-then-is_none-clause-one_volume : goal.returns-then-is_none-clause-one_volume
returns-then-is_none-clause-one_volume g c = λ premise. rw (← c.self.view_is) (moved_alone _ _ _ _ _ (is_none c.self.inside.joiner c.if-is_none.ensures) (c.count_out.ensures.one_volume premise))

pub returns-else-is_none-clause-one_volume : goal.returns-else-is_none-clause-one_volume
returns-else-is_none-clause-one_volume g c = λ premise. rests_so _ _ _ _ _ refl
