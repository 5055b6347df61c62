use Rattle.std.proofs.Common.{◌++◌, [], ◌∷◌, length, ap, subst, sym, ◌∙◌, arith}
use Rattle.std.specs.List.{AllZip}
use Rattle.std.proofs.lemmas.List.{length-append}
use Rattle.life.specs.Plays.{IsCutAt}
use Rattle.life.proofs.Beside.{all_more, all_yielded, one_behind}
use Rattle.life.proofs.Starting.{about_of_store, disk_in, leaves_now}
use Rattle.life.proofs.cutting.cut_all.Goals as goal

pub loop-store-init : goal.loop-store-init
loop-store-init c = record {
  whole = c.into_iter-store-iterator.ensures.into_iter_gives.0;
  cut = subst (AllZip (IsCutAt about_of_store leaves_now disk_in c.args.cut) []) (sym c.in_ok-disks.ensures.items) tt;
  count = c.in_ok-disks.ensures.len;
  room = omega (arith, c.in_ok-disks.ensures.capacity);
}

pub push_reserved-requires : goal.push_reserved-requires
push_reserved-requires c =
    let inv = c.loop-store.invariant in
    let parts = ap length inv.whole in
    let sum = length-append c.loop-store.yielded c.loop-store.store-iterator.rest.items in
    let more = ap length c.in-Some.ensures.steps.0 in
    let held = c.args.stores.ok in
    omega (arith, inv.count, inv.room, parts, sum, more, held)

pub loop-store-preserved : goal.loop-store-preserved
loop-store-preserved c =
    let inv = c.loop-store.invariant in
    let store = c.in-Some.store in
    let items = c.push_reserved.ensures.items in
    record {
      whole = one_behind c.loop-store.yielded c.loop-store.store-iterator.rest.items c.next.new.self.rest.items c.args.stores.items store inv.whole c.in-Some.ensures.steps.0;
      cut = subst (AllZip (IsCutAt about_of_store leaves_now disk_in c.args.cut) (c.loop-store.yielded ++ store ∷ [])) (sym items)
          (all_more (IsCutAt about_of_store leaves_now disk_in c.args.cut) c.loop-store.yielded c.loop-store.disks.items store c.cut_store.result inv.cut c.cut_store.ensures);
      count = let sum = length-append c.loop-store.yielded (store ∷ []) in omega (arith, inv.count, c.push_reserved.ensures.len, sum);
      room = omega (arith, inv.room, c.push_reserved.ensures.capacity);
    }

pub returns : goal.returns
returns c =
    let inv = c.loop-store.invariant in
    let whole = all_yielded c.loop-store.yielded c.loop-store.store-iterator.rest.items c.args.stores.items inv.whole (sym c.loop-store.store-iterator.rest.ok.0 ∙ c.in-None.ensures.steps.0) in
    subst (λ l. AllZip (IsCutAt about_of_store leaves_now disk_in c.args.cut) l c.loop-store.disks.items) whole inv.cut
