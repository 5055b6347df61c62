use Rattle.std.proofs.Common.{◌≡◌, true, false, refl, subst, sym, ◌∙◌}
use Rattle.std.specs.Prelude.{Err, Ok}
use Rattle.clients.specs.Clients.{no_one}
use Rattle.life.specs.Calls.{EndsWithJoiner}
use Rattle.life.specs.Managed.{Managed}
use Rattle.life.proofs.Copied.{apart_anyhow, apart_same, gone}
use Rattle.life.proofs.Starting.{IsStore, about_of_store, keeps_volume, leaves_now}
use Rattle.life.proofs.managing.end_join.Goals as goal

pub returns-then-ended-clause-ends : goal.returns-then-ended-clause-ends
returns-then-ended-clause-ends c =
    let did = c.in-Ok.ensures in
    subst (λ (m : Managed IsStore). EndsWithJoiner about_of_store (Ok c.in-Ok.ended) m (record { world = c.end_join.new.world; management = c.end_join.new.self; candidate = c.replace.new.dest; outside = c.managed.inside.outside.items })) c.managed.view_is (record {
      ended = λ done. (did.ended done, c.replace.ensures.after);
      idle = λ none. let no : true ≡ false = sym c.if-ended.true ∙ none in absurd (cc);
      candidate = tt;
      world = tt;
      manager = tt;
      unchanged = tt;
      device = tt;
      told = tt;
      cause = did.cause;
      untouched = did.untouched;
      attempted = tt;
      settled = did.settled tt;
      settled_still = λ settled. tt;
      any_moment = did.any_moment tt;
    })

pub returns-then-ended-clause-one_volume : goal.returns-then-ended-clause-one_volume
returns-then-ended-clause-one_volume c = apart_anyhow about_of_store keeps_volume leaves_now no_one no_one _ _ _ c.managed.view_is (c.end_join.ensures.one_volume tt)

pub returns-then-ended-clause-copy : goal.returns-then-ended-clause-copy
returns-then-ended-clause-copy c = gone about_of_store keeps_volume leaves_now c.args.managed.now _ _ c.replace.ensures.after

pub returns-else-ended-clause-ends : goal.returns-else-ended-clause-ends
returns-else-ended-clause-ends c =
    let did = c.in-Ok.ensures in
    subst (λ (m : Managed IsStore). EndsWithJoiner about_of_store (Ok c.in-Ok.ended) m (record { world = c.end_join.new.world; management = c.end_join.new.self; candidate = c.managed.inside.candidate; outside = c.managed.inside.outside.items })) c.managed.view_is (record {
      ended = λ done. let no : false ≡ true = sym c.if-ended.false ∙ done in absurd (cc);
      idle = λ none. let (why, (management, world)) = did.idle none in (why, ((world, management), refl));
      candidate = tt;
      world = tt;
      manager = tt;
      unchanged = tt;
      device = tt;
      told = tt;
      cause = did.cause;
      untouched = did.untouched;
      attempted = tt;
      settled = did.settled tt;
      settled_still = λ settled. tt;
      any_moment = did.any_moment tt;
    })

pub returns-else-ended-clause-one_volume : goal.returns-else-ended-clause-one_volume
returns-else-ended-clause-one_volume c = apart_anyhow about_of_store keeps_volume leaves_now no_one no_one _ _ _ c.managed.view_is (c.end_join.ensures.one_volume tt)

pub returns-else-ended-clause-copy : goal.returns-else-ended-clause-copy
returns-else-ended-clause-copy c = apart_same about_of_store keeps_volume leaves_now _ _ _ c.managed.view_is

pub returns-in-Err-clause-ends : goal.returns-in-Err-clause-ends
returns-in-Err-clause-ends c =
    let did = c.in-Err.ensures in
    subst (λ (m : Managed IsStore). EndsWithJoiner about_of_store (Err c.in-Err.refusal) m (record { world = c.end_join.new.world; management = c.end_join.new.self; candidate = c.managed.inside.candidate; outside = c.managed.inside.outside.items })) c.managed.view_is (record {
      ended = tt;
      idle = tt;
      candidate = refl;
      world = did.world;
      manager = did.manager;
      unchanged = did.unchanged;
      device = did.device;
      told = did.told;
      cause = did.cause;
      untouched = did.untouched;
      attempted = did.attempted;
      settled = λ settled. tt;
      settled_still = did.settled_still tt;
      any_moment = did.any_moment tt;
    })

pub returns-in-Err-clause-one_volume : goal.returns-in-Err-clause-one_volume
returns-in-Err-clause-one_volume c = apart_anyhow about_of_store keeps_volume leaves_now no_one no_one _ _ _ c.managed.view_is (c.end_join.ensures.one_volume tt)

pub returns-in-Err-clause-copy : goal.returns-in-Err-clause-copy
returns-in-Err-clause-copy c = apart_same about_of_store keeps_volume leaves_now _ _ _ c.managed.view_is
