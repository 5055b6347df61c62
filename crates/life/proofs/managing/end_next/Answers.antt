use Rattle.std.proofs.Common.{refl, subst, sym, inr, ◌∙◌}
use Rattle.std.proofs.lemmas.Result.{IfOk-weaker}
use Rattle.clients.specs.Clients.{no_one}
use Rattle.life.specs.Calls.{EndsRecord}
use Rattle.life.specs.Managed.{Managed}
use Rattle.life.proofs.Copied.{apart_anyhow, apart_same}
use Rattle.life.proofs.Starting.{IsStore, about_of_store, keeps_volume, leaves_now}
use Rattle.life.proofs.managing.end_next.Goals as goal

pub returns-else-is_counted-clause-ends : goal.returns-else-is_counted-clause-ends
returns-else-is_counted-clause-ends c =
    let did = c.end_record.ensures in
    inr (
      sym c.is_counted.ensures ∙ c.if-is_counted.false,
      subst (λ (m : Managed IsStore). EndsRecord c.end_record.result m (record { world = c.end_record.new.world; management = c.end_record.new.self; candidate = c.managed.inside.candidate; outside = c.managed.inside.outside.items })) c.managed.view_is
          (record {
            candidate = refl;
            ended = did.ended;
            idle = IfOk-weaker c.end_record.result _ _ (λ done so no. let both = so no in (both.0, (both.1.1, both.1.0))) did.idle;
            world = did.world;
            manager = did.manager;
            unchanged = did.unchanged;
            device = did.device;
            told = did.told;
            cause = did.cause;
            broken = did.broken;
            attempted = did.attempted;
            settled = did.settled tt;
            any_moment = did.any_moment tt;
          }),
    )

pub returns-else-is_counted-clause-one_volume : goal.returns-else-is_counted-clause-one_volume
returns-else-is_counted-clause-one_volume c = apart_anyhow about_of_store keeps_volume leaves_now no_one no_one _ _ _ c.managed.view_is (c.end_record.ensures.one_volume tt)

pub returns-else-is_counted-clause-copy : goal.returns-else-is_counted-clause-copy
returns-else-is_counted-clause-copy c = apart_same about_of_store keeps_volume leaves_now _ _ _ c.managed.view_is
