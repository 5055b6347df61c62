use Rattle.std.proofs.Common.{refl, subst}
use Rattle.clients.specs.Clients.{no_one}
use Rattle.world.specs.World.{IsOfOneVolume}
use Rattle.life.specs.Calls.{ArmsConfig}
use Rattle.life.specs.Does.{TellsArmed}
use Rattle.life.specs.Managed.{Managed}
use Rattle.life.proofs.Answering.{still}
use Rattle.life.proofs.Starting.{IsStore, about_of_store, keeps_volume, leaves_now}
use Rattle.life.proofs.living.arm_config.Goals as goal
use Rattle.life.proofs.living.arm_config.Goals.{in-Ok, in-Err}

pub returns-clause-does : goal.returns-clause-does
returns-clause-does c =
    let told : TellsArmed c.arm.result c.match-arm.result = elim c.match-arm.branch [ in-Ok w ↦ rw (w.in-Ok.is, w.result-is) (refl, w.new.ensures.items) | in-Err w ↦ rw w.in-Err.is w.result-is ] in
    let did = c.arm.ensures in (
      c.arm.result,
      told,
      subst (λ (m : Managed IsStore). ArmsConfig c.args.event c.arm.result m (record { world = c.managed.inside.world; management = c.arm.new.self; candidate = c.managed.inside.candidate; outside = c.managed.inside.outside.items })) c.managed.view_is
          (record { candidate = refl; ok = did.ok; err = did.err; stays = did.stays; leaves = did.leaves; manager = did.manager; config = did.config; world = refl }),
    )

pub returns-clause-one_volume : goal.returns-clause-one_volume
returns-clause-one_volume c =
    subst (λ (m : Managed IsStore). IsOfOneVolume about_of_store keeps_volume leaves_now no_one no_one m.world c.managed.inside.world) c.managed.view_is (still about_of_store keeps_volume leaves_now c.managed.inside.world)
