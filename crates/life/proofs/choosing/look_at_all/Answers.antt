use Rattle.std.proofs.Common.{◌≡◌, ◌++◌, [], ◌∷◌, length, ap, subst, sym, ◌∙◌, arith}
use Rattle.std.specs.Prelude.{IfErr, IfNone, IfOk, IfSome, None, false, is_some, true}
use Rattle.std.specs.List.{AllZip}
use Rattle.std.proofs.lemmas.List.{length-append}
use Rattle.disk_model.specs.Memory.{failures_of}
use Rattle.local_store.specs.Refusal.{IsCaused, IsNotOfDevice}
use Rattle.life.specs.Recovered.{AreOpenedWell, AreSeen, IsRead, IsReadWell, IsSeenIf, comes_back, is_opened}
use Rattle.life.specs.Refusal.{IsOfReopening}
use Rattle.life.proofs.Beside.{all_more, one_behind}
use Rattle.life.proofs.Looking.{IsOneOfThem, all_as_they_were, looked_more, refused_last, refused_still}
use Rattle.life.proofs.choosing.look_at_all.Goals as goal
use Rattle.life.proofs.choosing.look_at_all.Goals.{else-is_none, then-is_none}

pub returns-in_default-clause-back : goal.returns-in_default-clause-back
returns-in_default-clause-back c = all_as_they_were c.args.disks.items

pub returns-in_default-with_capacity-clause-back : goal.returns-in_default-with_capacity-clause-back
returns-in_default-with_capacity-clause-back c = all_as_they_were c.args.disks.items

pub loop-disk-preserved-in-Ok-found : goal.loop-disk-preserved-in-Ok-found
loop-disk-preserved-in-Ok-found c =
    let inv = c.loop-disk.invariant in
    let disk = c.in-Some.disk in
    let looked = c.look_at-found.ensures in
    let now = c.look_at-found.result.1 in
    let found = c.in-Ok-found.found in
    let yielded = c.loop-disk.yielded in
    let items = c.push_reserved.ensures.items in
    let seen_items = c.push_reserved-in-Ok-found.ensures.items in
    let sum = length-append yielded (disk ∷ []) in
    let returns : c.loop-disk.refused ≡ None → c.if-is_none.returns ≡ comes_back c.args.returned.now (length yielded) = λ none. elim c.if-is_none.branch [
      | then-is_none w ↦ w.returns-is ∙ w.contains-returns.ensures.value ∙ ap (comes_back c.args.returned.now) (w.len-then-is_none.ensures ∙ inv.count)
      | else-is_none w ↦
          let yes : is_some c.loop-disk.refused ≡ true = w.if-is_none.ensures in
          let no : is_some c.loop-disk.refused ≡ false = ap is_some none in
          absurd (cc (yes, no))
    ] in
    record {
      whole = one_behind yielded c.loop-disk.disk-iterator.rest.items c.next.new.self.rest.items c.args.disks.items disk inv.whole c.in-Some.ensures.steps.0;
      back = subst (AllZip IsRead (yielded ++ disk ∷ [])) (sym items) (all_more IsRead yielded c.loop-disk.back.items disk now inv.back looked.back);
      count = omega (arith, inv.count, c.push_reserved.ensures.len, sum);
      few = omega (arith, inv.few, c.push_reserved-in-Ok-found.ensures.len, sum);
      room = omega (arith, inv.room, c.push_reserved.ensures.capacity);
      room_seen = omega (arith, inv.room_seen, c.push_reserved-in-Ok-found.ensures.capacity);
      seen = subst (λ b. IfNone c.loop-disk.refused (AreSeen c.args.returned.now (yielded ++ disk ∷ []) c.push_reserved-in-Ok-found.new.self.items × AreOpenedWell (yielded ++ disk ∷ []) b c.push_reserved-in-Ok-found.new.self.items)) (sym items)
          (subst (λ s. IfNone c.loop-disk.refused (AreSeen c.args.returned.now (yielded ++ disk ∷ []) s × AreOpenedWell (yielded ++ disk ∷ []) (c.loop-disk.back.items ++ now ∷ []) s)) (sym seen_items)
          (looked_more c.args.returned.now c.loop-disk.refused c.if-is_none.returns yielded c.loop-disk.back.items c.loop-disk.seen.items disk now found inv.back returns inv.seen
          (subst (λ r. IfOk r (IsSeenIf c.if-is_none.returns disk.disk)) c.in-Ok-found.is looked.seen) (subst (λ r. IfOk r (λ s. is_opened s ≡ true → IsReadWell disk now)) c.in-Ok-found.is looked.well)));
      refused = subst (λ b. IfSome c.loop-disk.refused (IsOneOfThem c.args.disks.items (yielded ++ disk ∷ []) b)) (sym items) (refused_still c.loop-disk.refused c.args.disks.items yielded c.loop-disk.back.items disk now inv.refused);
    }

pub loop-disk-preserved : goal.loop-disk-preserved
loop-disk-preserved c =
    let inv = c.loop-disk.invariant in
    let disk = c.in-Some.disk in
    let looked = c.look_at-found.ensures in
    let now = c.look_at-found.result.1 in
    let refusal = c.in-Err.refusal in
    let yielded = c.loop-disk.yielded in
    let items = c.push_reserved.ensures.items in
    let sum = length-append yielded (disk ∷ []) in
    let whole = one_behind yielded c.loop-disk.disk-iterator.rest.items c.next.new.self.rest.items c.args.disks.items disk inv.whole c.in-Some.ensures.steps.0 in
    let held = c.loop-disk.back.ok in
    record {
      whole = whole;
      back = subst (AllZip IsRead (yielded ++ disk ∷ [])) (sym items) (all_more IsRead yielded c.loop-disk.back.items disk now inv.back looked.back);
      count = omega (arith, inv.count, c.push_reserved.ensures.len, sum);
      few = omega (arith, inv.few, sum);
      room = omega (arith, inv.room, c.push_reserved.ensures.capacity);
      room_seen = inv.room_seen;
      seen = tt;
      refused = subst (λ b. IsOneOfThem c.args.disks.items (yielded ++ disk ∷ []) b refusal) (sym items)
          (refused_last refusal c.args.disks.items yielded c.next.new.self.rest.items c.loop-disk.back.items disk now whole (omega (arith, inv.count, held)) (subst (λ r. IfErr r IsOfReopening) c.in-Err.is looked.told)
          (subst (λ r. IfErr r (IsCaused (failures_of disk.disk) (failures_of now.disk))) c.in-Err.is looked.cause)
          (λ calm. subst (λ r. IfErr r IsNotOfDevice) c.in-Err.is (looked.calm calm)));
    }
