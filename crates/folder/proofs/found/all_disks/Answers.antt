use Rattle.std.proofs.Common.{◌≡◌, ◌++◌, [], ◌∷◌, List, length, map, arith, ap, sym, ◌∙◌}
use Rattle.std.proofs.lemmas.List.{length-append, map-append}
use Rattle.local_store.specs.declared.store.Store.{Store}
use Rattle.folder.specs.Found.{disk_in}
use Rattle.folder.specs.declared.found.OnDisk.{OnDisk}
use Rattle.folder.proofs.Finding.{all_yielded, none_left, one_behind}
use Rattle.folder.proofs.found.all_disks.Goals as goal

pub loop-one-init : goal.loop-one-init
loop-one-init g c = record {
  whole = c.into_iter-one-iterator.ensures.into_iter_gives.0;
  are = c.requires.empty;
  count = c.args.room.ok.0 ∙ ap (λ (l : List g.row.D.Denot). length l) c.requires.empty;
  room = c.requires.enough;
}

pub push_reserved-requires : goal.push_reserved-requires
push_reserved-requires g c =
    let inv = c.loop-one.invariant in
    let parts : length (c.loop-one.yielded ++ c.loop-one.one-iterator.rest.items) ≡ length c.args.found.items = ap (λ (l : List (OnDisk (Store g.row.D.Denot g.D.Disk) g.row.D.Denot)). length l) inv.whole in
    let sum = length-append c.loop-one.yielded c.loop-one.one-iterator.rest.items in
    let more : length c.loop-one.one-iterator.rest.items ≡ length (c.in-Some.one ∷ c.next.new.self.rest.items) = ap (λ (l : List (OnDisk (Store g.row.D.Denot g.D.Disk) g.row.D.Denot)). length l) c.in-Some.ensures.steps.0 in
    omega (arith, inv.count, inv.room)

pub loop-one-preserved : goal.loop-one-preserved
loop-one-preserved g c =
    let inv = c.loop-one.invariant in
    record {
      whole = one_behind c.loop-one.yielded c.loop-one.one-iterator.rest.items c.next.new.self.rest.items c.args.found.items c.in-Some.one inv.whole c.in-Some.ensures.steps.0;
      are =
          c.push_reserved.ensures.items
          ∙ ap (λ (l : List g.row.D.Denot). l ++ c.into_disk.result ∷ []) inv.are
          ∙ ap (λ (disk : g.row.D.Denot). map (λ (one : OnDisk (Store g.row.D.Denot g.D.Disk) g.row.D.Denot). disk_in one (λ s. s.disk)) c.loop-one.yielded ++ disk ∷ []) c.into_disk.ensures
          ∙ sym (map-append (λ (one : OnDisk (Store g.row.D.Denot g.D.Disk) g.row.D.Denot). disk_in one (λ s. s.disk)) c.loop-one.yielded (c.in-Some.one ∷ []));
      count =
          let other = length-append c.loop-one.yielded (c.in-Some.one ∷ []) in
          omega (arith, inv.count, c.push_reserved.ensures.len);
      room = omega (arith, inv.room, c.push_reserved.ensures.capacity);
    }

pub returns : goal.returns
returns g c =
    let inv = c.loop-one.invariant in
    inv.are ∙ ap (map (λ (one : OnDisk (Store g.row.D.Denot g.D.Disk) g.row.D.Denot). disk_in one (λ s. s.disk))) (all_yielded c.loop-one.yielded c.loop-one.one-iterator.rest.items c.args.found.items inv.whole (none_left c.loop-one.one-iterator.rest.items (sym c.loop-one.one-iterator.rest.ok.0 ∙ c.in-None.ensures.steps.0)))
