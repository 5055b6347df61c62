use Rattle.std.proofs.Common.{◌≡◌, ◌++◌, ◌∙◌, suc, true, false, ap, arith, refl, subst}
use Rattle.std.specs.Option.{option_to_list}
use Rattle.std.specs.Prelude.{Err, Ok, Result}
use Rattle.configurations.specs.Record.{Record}
use Rattle.manager.specs.declared.refusal.Refusal as manager
use Rattle.manager.specs.declared.refusal.Refusal.TheVariants as managers
use Rattle.clients.specs.Clients.{no_one}
use Rattle.life.specs.Aside.{GrowsOutside, IsSetAside, IsStoreLeft}
use Rattle.life.specs.Calls.{Abandons}
use Rattle.life.specs.Managed.{Managed}
use Rattle.life.specs.Played.{handed_of}
use Rattle.life.specs.declared.answer.Answer.TheVariants.{Refused}
use Rattle.life.proofs.Answering.{done_so, silent_none}
use Rattle.life.proofs.Copied.{apart_anyhow, apart_same, gone, nothing_happens}
use Rattle.life.proofs.Outside.{outside_stays, outside_two}
use Rattle.life.proofs.Starting.{IsStore, about_of_store, keeps_volume, leaves_now}
use Rattle.life.proofs.admitting.abandon.Goals as goal

-- the same refusal, of another call
err_as : {T U : Type 0} (e f : manager.Refusal) → ◌≡◌ {A = Result T manager.Refusal} (Err e) (Err f) → ◌≡◌ {A = Result U manager.Refusal} (Err e) (Err f)
err_as e f is = let same : e ≡ f = cc is in ap Err same

pub returns-in-Ok-clause-does : goal.returns-in-Ok-clause-does
returns-in-Ok-clause-does c = (
  Ok tt,
  c.silent.ensures,
  subst (λ (m : Managed IsStore). Abandons about_of_store leaves_now (Ok tt) m (record { world = c.abandon_join.new.world; management = c.abandon_join.new.self; candidate = c.replace-candidate.new.dest; outside = c.put_outside-in-Ok.new.outside.items })) c.managed.view_is (record {
    done = c.in-Ok.ensures.done;
    nobody = c.replace-candidate.ensures.after;
    aside = record {
      store = c.in-Ok.store;
      given_up = c.in-Ok.ensures.given_up;
      on_its_way = c.left_of.result;
      joined = c.left_of_store.result;
      set_aside = subst (λ x. IsSetAside about_of_store leaves_now (suc c.managed.inside.world.chain.recorded.epoch) x c.left_of.result) c.replace-candidate.ensures.value
          (subst (λ n. IsSetAside about_of_store leaves_now n c.replace-candidate.result c.left_of.result) (let e = ap (λ (r : Record). r.epoch) c.recorded.ensures in omega (arith, e, c.epoch.ensures, c.number-next.ensures.number)) c.left_of.ensures);
      left = subst (λ n. IsStoreLeft about_of_store leaves_now n c.in-Ok.store c.left_of_store.result) (let e = ap (λ (r : Record). r.epoch) c.recorded.ensures in omega (arith, e, c.epoch.ensures, c.number-next.ensures.number)) c.left_of_store.ensures;
      are = c.put_outside-in-Ok.ensures.items ∙ ap (λ l. l ++ option_to_list c.left_of_store.result) (c.put_outside.ensures.items ∙ ap (λ l. l ++ option_to_list c.left_of.result) c.make_room.ensures.items);
    };
    ok = λ is. c.in-Ok.ensures.ok refl;
    refused = tt;
    memory = λ is. let clash : ◌≡◌ {A = Result (Unit {0}) manager.Refusal} (Ok tt) (Err managers.Memory) = is in absurd (cc);
    unchanged = tt;
    outside = tt;
  }),
)

pub returns-in-Ok-clause-one_volume : goal.returns-in-Ok-clause-one_volume
returns-in-Ok-clause-one_volume c =
    apart_anyhow about_of_store keeps_volume leaves_now no_one (handed_of c.silent.result) _ _ _ c.managed.view_is
    (done_so about_of_store keeps_volume leaves_now c.managed.inside.world c.abandon_join.new.world no_one c.silent.result (silent_none _ c.silent.ensures) (c.abandon_join.ensures.one_volume tt))

pub returns-in-Ok-clause-copy : goal.returns-in-Ok-clause-copy
returns-in-Ok-clause-copy c = gone about_of_store keeps_volume leaves_now c.args.managed.now _ _ c.replace-candidate.ensures.after

pub returns-in-Err-clause-does : goal.returns-in-Err-clause-does
returns-in-Err-clause-does c = (
  Err c.in-Err.refusal,
  ap Refused c.number.ensures,
  subst (λ (m : Managed IsStore). Abandons about_of_store leaves_now (Err c.in-Err.refusal) m (record { world = c.abandon_join.new.world; management = c.abandon_join.new.self; candidate = c.managed.inside.candidate; outside = c.make_room.new.outside.items })) c.managed.view_is (record {
    done = tt;
    nobody = tt;
    aside = tt;
    ok = λ is. let clash : false ≡ true = is in absurd (cc);
    refused = c.in-Err.ensures.refused;
    memory = λ is. c.in-Err.ensures.memory (err_as c.in-Err.refusal managers.Memory is);
    unchanged = ((c.in-Err.ensures.unchanged.1, c.in-Err.ensures.unchanged.0), refl);
    outside = c.make_room.ensures.items;
  }),
)

pub returns-in-Err-clause-one_volume : goal.returns-in-Err-clause-one_volume
returns-in-Err-clause-one_volume c = apart_anyhow about_of_store keeps_volume leaves_now no_one no_one _ _ _ c.managed.view_is (c.abandon_join.ensures.one_volume tt)

pub returns-in-Err-clause-copy : goal.returns-in-Err-clause-copy
returns-in-Err-clause-copy c = apart_same about_of_store keeps_volume leaves_now _ _ _ c.managed.view_is

pub put_outside-requires : goal.put_outside-requires
put_outside-requires c = let room = c.make_room.ensures.room c.if-not-make_room.false (c.can_abandon-may.ensures.1 (c.in-Ok.ensures.ok refl)) in omega (arith, room)

pub put_outside-requires-in-Ok : goal.put_outside-requires-in-Ok
put_outside-requires-in-Ok c =
    let room = c.make_room.ensures.room c.if-not-make_room.false (c.can_abandon-may.ensures.1 (c.in-Ok.ensures.ok refl)) in
    omega (arith, room, c.put_outside.ensures.len, c.put_outside.ensures.capacity)

pub left_of_store-requires : goal.left_of_store-requires
left_of_store-requires c = record { runs = c.in-Ok.ensures.runs }

pub returns-in-Ok-clause-outside : goal.returns-in-Ok-clause-outside
returns-in-Ok-clause-outside c =
    subst (λ (m : Managed IsStore). GrowsOutside m (record { world = c.abandon_join.new.world; management = c.abandon_join.new.self; candidate = c.replace-candidate.new.dest; outside = c.put_outside-in-Ok.new.outside.items })) c.managed.view_is
    (outside_two _ _ (option_to_list c.left_of.result) (option_to_list c.left_of_store.result)
    (c.put_outside-in-Ok.ensures.items ∙ ap (λ l. l ++ option_to_list c.left_of_store.result) (c.put_outside.ensures.items ∙ ap (λ l. l ++ option_to_list c.left_of.result) c.make_room.ensures.items)))

pub returns-in-Err-clause-outside : goal.returns-in-Err-clause-outside
returns-in-Err-clause-outside c =
    subst (λ (m : Managed IsStore). GrowsOutside m (record { world = c.abandon_join.new.world; management = c.abandon_join.new.self; candidate = c.managed.inside.candidate; outside = c.make_room.new.outside.items })) c.managed.view_is
    (outside_stays _ _ c.make_room.ensures.items)

pub returns-then-not-make_room-clause-does : goal.returns-then-not-make_room-clause-does
returns-then-not-make_room-clause-does c = (
  Err managers.Memory,
  refl,
  subst (λ (m : Managed IsStore). Abandons about_of_store leaves_now (Err managers.Memory) m (record { world = c.managed.inside.world; management = c.managed.inside.management; candidate = c.managed.inside.candidate; outside = c.make_room.new.outside.items })) c.managed.view_is (record {
    done = tt;
    nobody = tt;
    aside = tt;
    ok = λ is. let clash : false ≡ true = is in absurd (cc);
    refused = λ other. absurd (other refl);
    memory = λ is. c.can_abandon-may.ensures.0 (c.make_room.ensures.needed c.if-not-make_room.true);
    unchanged = ((refl, refl), refl);
    outside = c.make_room.ensures.items;
  }),
)

pub returns-then-not-make_room-clause-one_volume : goal.returns-then-not-make_room-clause-one_volume
returns-then-not-make_room-clause-one_volume c = nothing_happens about_of_store keeps_volume leaves_now no_one c.args.managed.now
    (record { world = c.managed.inside.world; management = c.managed.inside.management; candidate = c.managed.inside.candidate; outside = c.make_room.new.outside.items }) (ap (λ (m : Managed IsStore). m.world) c.managed.view_is) refl

pub returns-then-not-make_room-clause-copy : goal.returns-then-not-make_room-clause-copy
returns-then-not-make_room-clause-copy c = apart_same about_of_store keeps_volume leaves_now _ _ _ c.managed.view_is
