use Rattle.std.proofs.Common.{subst}
use Rattle.world.specs.World.{IsOfOneVolume}
use Rattle.life.specs.Managed.{Managed}
use Rattle.life.specs.Played.{fed_by_step, handed_by_step}
use Rattle.life.proofs.Starting.{IsStore, about_of_store, keeps_volume, leaves_now}
use Rattle.life.proofs.living.take_step.Goals as goal

pub returns-clause-one_volume : goal.returns-clause-one_volume
returns-clause-one_volume c =
    subst (λ (m : Managed IsStore). IsOfOneVolume about_of_store keeps_volume leaves_now (fed_by_step c.args.step.now c.play.result) (handed_by_step c.args.step.now c.play.result) m.world c.play.new.world)
    c.managed.view_is (c.play.ensures.one_volume tt)
