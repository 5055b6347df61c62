use Rattle.std.proofs.Common.{ℕ, List, subst, sym}
use Rattle.clients.specs.Clients.{no_one}
use Rattle.flush_barrier.specs.declared.session_id.SessionId.{SessionId}
use Rattle.world.specs.World.{IsOfOneVolume}
use Rattle.life.specs.Calls.{GivesRest}
use Rattle.life.specs.Managed.{Managed}
use Rattle.life.specs.Played.{handed_of}
use Rattle.life.proofs.Copied.{apart_anyhow, apart_kept}
use Rattle.life.proofs.Starting.{IsStore, about_of_store, failures_in, keeps_volume, leaves_now, left_in, moment_in, pends_in}
use Rattle.life.proofs.admitting.rest.Goals as goal

pub returns-clause-does : goal.returns-clause-does
returns-clause-does c = (
  c.rest-gave.result,
  c.gave_so.ensures.tells,
  subst (λ (m : Managed IsStore). GivesRest (Unit {0}) about_of_store keeps_volume pends_in leaves_now moment_in left_in failures_in c.rest-gave.result m
      (record { world = c.rest-gave.new.world; management = c.rest-gave.new.management; candidate = c.rest-gave.new.self; outside = c.managed.inside.outside.items })) c.managed.view_is
      (record { rests = c.rest-gave.ensures.rests; cause = c.rest-gave.ensures.cause }),
)

pub returns-clause-one_volume : goal.returns-clause-one_volume
returns-clause-one_volume c =
    apart_anyhow about_of_store keeps_volume leaves_now no_one (handed_of c.gave_so.result) _ _ _ c.managed.view_is
    (subst (λ (handed : SessionId → List ℕ). IsOfOneVolume about_of_store keeps_volume leaves_now no_one handed c.managed.inside.world c.rest-gave.new.world) (sym c.gave_so.ensures.handed) (c.rest-gave.ensures.one_volume tt))

pub returns-clause-copy : goal.returns-clause-copy
returns-clause-copy c = apart_kept about_of_store keeps_volume leaves_now _ _ _ _ c.managed.view_is (c.rest-gave.ensures.copy tt)
