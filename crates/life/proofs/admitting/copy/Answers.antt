use Rattle.std.proofs.Common.{ℕ, List, subst, sym}
use Rattle.clients.specs.Clients.{no_one}
use Rattle.flush_barrier.specs.declared.session_id.SessionId.{SessionId}
use Rattle.world.specs.World.{IsOfOneVolume}
use Rattle.life.specs.Calls.{CopiesNext}
use Rattle.life.specs.Managed.{Managed}
use Rattle.life.specs.Played.{handed_of}
use Rattle.life.proofs.Copied.{apart_anyhow, apart_kept}
use Rattle.life.proofs.Starting.{IsStore, about_of_store, failures_in, keeps_volume, leaves_now, left_in, moment_in, pends_in}
use Rattle.life.proofs.admitting.copy.Goals as goal

pub returns-clause-does : goal.returns-clause-does
returns-clause-does c = (
  c.copy-gave.result,
  c.gave_so.ensures.tells,
  subst (λ (m : Managed IsStore). CopiesNext (Unit {0}) about_of_store keeps_volume pends_in leaves_now moment_in left_in failures_in c.copy-gave.result m
      (record { world = c.copy-gave.new.world; management = c.copy-gave.new.management; candidate = c.copy-gave.new.self; outside = c.managed.inside.outside.items })) c.managed.view_is
      (record { copies = c.copy-gave.ensures.copies; cause = c.copy-gave.ensures.cause }),
)

pub returns-clause-one_volume : goal.returns-clause-one_volume
returns-clause-one_volume c =
    apart_anyhow about_of_store keeps_volume leaves_now no_one (handed_of c.gave_so.result) _ _ _ c.managed.view_is
    (subst (λ (handed : SessionId → List ℕ). IsOfOneVolume about_of_store keeps_volume leaves_now no_one handed c.managed.inside.world c.copy-gave.new.world) (sym c.gave_so.ensures.handed) (c.copy-gave.ensures.one_volume tt))

pub returns-clause-copy : goal.returns-clause-copy
returns-clause-copy c = apart_kept about_of_store keeps_volume leaves_now _ _ _ _ c.managed.view_is (c.copy-gave.ensures.copy tt)
