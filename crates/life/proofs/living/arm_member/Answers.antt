use Rattle.std.proofs.Common.{subst}
use Rattle.clients.specs.Clients.{no_one}
use Rattle.world.specs.World.{IsOfOneVolume}
use Rattle.life.specs.Does.{IsArmed}
use Rattle.life.specs.Managed.{Managed}
use Rattle.life.proofs.Starting.{IsStore, about_of_store, disk_in, failures_in, keeps_volume, leaves_now, pends_in}
use Rattle.life.proofs.living.arm_member.Goals as goal

pub returns-clause-does : goal.returns-clause-does
returns-clause-does c = subst (λ (m : Managed IsStore). IsArmed about_of_store keeps_volume pends_in leaves_now failures_in disk_in c.args.at c.args.event c.arm.result m.world c.arm.new.world) c.managed.view_is c.arm.ensures.does

pub returns-clause-one_volume : goal.returns-clause-one_volume
returns-clause-one_volume c = subst (λ (m : Managed IsStore). IsOfOneVolume about_of_store keeps_volume leaves_now no_one no_one m.world c.arm.new.world) c.managed.view_is c.arm.ensures.one_volume
