use Rattle.std.proofs.Common.{◌≡◌, true, false, ap, refl, subst, inl, inr, ◌∙◌}
use Rattle.manager.specs.Manager.{next_of}
use Rattle.life.specs.Calls.{AttachesNew}
use Rattle.life.specs.Managed.{Managed}
use Rattle.life.proofs.Copied.{apart_attached, same_copy}
use Rattle.life.proofs.Starting.{IsStore, about_of_store, keeps_volume, leaves_now}
use Rattle.life.proofs.admitting.attach_new.Goals as goal

pub returns-in_default : goal.returns-in_default
returns-in_default c = record {
  attaches = record {
    world = refl;
    attaches = inr (record {
      attached = λ done. let no : false ≡ true = done in absurd (cc);
      idle = λ done. (inl (λ slot due. c.in_default.not-Attach slot (c.next.ensures ∙ ap (λ (m : Managed IsStore). next_of m.management.manager) c.managed.view_is ∙ due)), refl, refl);
      refused = tt;
    });
    begins = λ slot order volume long done. let no : false ≡ true = done in absurd (cc);
  };
  outside = refl;
  world = refl;
  copy = same_copy about_of_store keeps_volume leaves_now c.args.managed.now c.args.managed.now refl;
}

pub returns-in_err-disk-clause-copy : goal.returns-in_err-disk-clause-copy
returns-in_err-disk-clause-copy c = same_copy about_of_store keeps_volume leaves_now c.args.managed.now c.args.managed.now refl

pub returns-clause-attaches : goal.returns-clause-attaches
returns-clause-attaches c =
    subst (λ (m : Managed IsStore). AttachesNew c.attach.result m (record { world = c.managed.inside.world; management = c.attach.new.management; candidate = c.attach.new.self; outside = c.managed.inside.outside.items })) c.managed.view_is
    (record { world = refl; attaches = inr c.attach.ensures.attaches; begins = c.attach.ensures.begins tt })

pub returns-clause-copy : goal.returns-clause-copy
returns-clause-copy c =
    apart_attached about_of_store keeps_volume leaves_now c.attach.result _ _ _ _ _ c.managed.view_is c.attach.ensures.attaches (c.attach.ensures.copy tt)

pub returns-in_err-arm-clause-copy : goal.returns-in_err-arm-clause-copy
returns-in_err-arm-clause-copy c = same_copy about_of_store keeps_volume leaves_now c.args.managed.now c.args.managed.now refl
