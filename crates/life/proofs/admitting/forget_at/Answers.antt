use Rattle.std.proofs.Common.{◌≡◌, true, false, refl, subst, sym}
use Rattle.candidate.specs.declared.candidate.Candidate.TheVariants.{Nobody}
use Rattle.clients.specs.Clients.{no_one}
use Rattle.life.specs.Calls.{Forgets}
use Rattle.life.specs.Managed.{Managed}
use Rattle.life.proofs.Copied.{apart_anyhow, nothing_happens, same_copy}
use Rattle.life.proofs.Starting.{IsStore, about_of_store, keeps_volume, leaves_now}
use Rattle.life.proofs.admitting.forget_at.Goals as goal

pub returns-then-at-len-clause-one_volume : goal.returns-then-at-len-clause-one_volume
returns-then-at-len-clause-one_volume c = nothing_happens about_of_store keeps_volume leaves_now no_one c.args.managed.now c.args.managed.now refl refl

pub returns-then-at-len-clause-copy : goal.returns-then-at-len-clause-copy
returns-then-at-len-clause-copy c = same_copy about_of_store keeps_volume leaves_now c.args.managed.now c.args.managed.now refl

pub returns-then-not-is_alone-clause-one_volume : goal.returns-then-not-is_alone-clause-one_volume
returns-then-not-is_alone-clause-one_volume c = nothing_happens about_of_store keeps_volume leaves_now no_one c.args.managed.now c.args.managed.now refl refl

pub returns-then-not-is_alone-clause-copy : goal.returns-then-not-is_alone-clause-copy
returns-then-not-is_alone-clause-copy c = same_copy about_of_store keeps_volume leaves_now c.args.managed.now c.args.managed.now refl

pub returns-in_default-clause-one_volume : goal.returns-in_default-clause-one_volume
returns-in_default-clause-one_volume c = apart_anyhow about_of_store keeps_volume leaves_now no_one no_one _ _ _ c.managed.view_is (c.forget.ensures.one_volume tt)

pub returns-clause-forgets : goal.returns-clause-forgets
returns-clause-forgets c =
    subst (λ (m : Managed IsStore). Forgets c.args.at true m (record { world = c.forget.new.self; management = c.managed.inside.management; candidate = c.managed.inside.candidate; outside = c.managed.inside.outside.items })) c.managed.view_is (record {
      candidate = refl;
      management = refl;
      forgotten = λ done. (subst (λ (m : Managed IsStore). m.candidate ≡ Nobody) (sym c.managed.view_is) (c.is_alone.ensures.0 c.if-not-is_alone.false), (c.in-Some.store, c.in-Some.ensures.forgotten.0, c.in-Some.ensures.forgotten.1));
      idle = λ none. let clash : true ≡ false = none in absurd (cc);
    })

pub returns-clause-one_volume : goal.returns-clause-one_volume
returns-clause-one_volume c = apart_anyhow about_of_store keeps_volume leaves_now no_one no_one _ _ _ c.managed.view_is (c.forget.ensures.one_volume tt)
