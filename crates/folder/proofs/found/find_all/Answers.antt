use Rattle.std.proofs.Common.{◌≡◌, ◌++◌, [], ◌∷◌, List, ℕ, Option, All, IfSome, length, map, arith, ap, subst, sym, ◌∙◌, refl, zero, suc, None, Some}
use Rattle.std.specs.Prelude.{is_some}
use Rattle.std.specs.List.{AllZip}
use Rattle.std.proofs.lemmas.List.{length-append, length-map, map-append}
use Rattle.std.proofs.lemmas.List.Elements.{All-append, All-nil}
use Rattle.gate_journal.specs.Runs.{OnlyReads}
use Rattle.local_store.specs.About.{about_of}
use Rattle.local_store.specs.Store.{IsStored}
use Rattle.local_store.specs.declared.store.Store.{Store}
use Rattle.folder.specs.Found.{IsFound, MayRun, disk_in}
use Rattle.folder.specs.declared.found.Fault.{Fault}
use Rattle.folder.specs.declared.found.OnDisk.{OnDisk}
use Rattle.folder.proofs.Finding.{IsFaulty, all_found-more, all_yielded, all_zip-more, faulty-more, none_left, one_behind}
use Rattle.folder.proofs.found.find_all.Goals as goal

pub loop-disk-init : goal.loop-disk-init
loop-disk-init g c =
    let none : List (OnDisk (Store g.row.D.Denot g.D.Disk) g.row.D.Denot) = [] in
    record {
      whole = c.into_iter-disk-iterator.ensures.into_iter_gives.0;
      many = ap (λ (l : List (OnDisk (Store g.row.D.Denot g.D.Disk) g.row.D.Denot)). length l) c.requires.empty;
      count = c.args.room.ok.0 ∙ ap (λ (l : List (OnDisk (Store g.row.D.Denot g.D.Disk) g.row.D.Denot)). length l) c.requires.empty;
      room = c.requires.enough;
      finds = λ keeps is. subst (AllZip (IsFound (λ (s : Store g.row.D.Denot g.D.Disk). about_of s.contents) (λ s volume. IsStored s.contents volume (g.D.Disk.gives s.disk) (g.D.Disk.may_leave_now s.disk))) []) (sym c.requires.empty) tt;
      reads = λ keeps. subst (AllZip (λ disk (one : OnDisk (Store g.row.D.Denot g.D.Disk) g.row.D.Denot). OnlyReads g.D.Disk.gives g.D.Disk.may_leave_now g.D.Disk.moment g.D.Disk.may_have_left_since disk (disk_in one (λ s. s.disk))) []) (sym c.requires.empty) tt;
      running = subst (All (MayRun (λ (s : Store g.row.D.Denot g.D.Disk). about_of s.contents))) (sym c.requires.empty) (All-nil (MayRun (λ (s : Store g.row.D.Denot g.D.Disk). about_of s.contents)));
      faulty = tt;
    }

pub push_reserved-requires : goal.push_reserved-requires
push_reserved-requires g c =
    let inv = c.loop-disk.invariant in
    let parts : length (c.loop-disk.yielded ++ c.loop-disk.disk-iterator.rest.items) ≡ length c.args.disks.items = ap (λ (l : List g.row.D.Denot). length l) inv.whole in
    let sum = length-append c.loop-disk.yielded c.loop-disk.disk-iterator.rest.items in
    let more : length c.loop-disk.disk-iterator.rest.items ≡ length (c.in-Some.disk ∷ c.next.new.self.rest.items) = ap (λ (l : List g.row.D.Denot). length l) c.in-Some.ensures.steps.0 in
    omega (arith, inv.count, inv.room)

pub loop-disk-preserved : goal.loop-disk-preserved
loop-disk-preserved g c =
    let inv = c.loop-disk.invariant in
    let disk = c.in-Some.disk in
    let one = c.find_next.result in
    let next = c.find_next.ensures in
    let items = c.push_reserved.ensures.items in
    let place : c.len-place.result ≡ length c.loop-disk.yielded = c.len-place.ensures ∙ inv.count in
    let back : map (λ (one : OnDisk (Store g.row.D.Denot g.D.Disk) g.row.D.Denot). disk_in one (λ s. s.disk)) c.push_reserved.new.self.items ≡ map (λ (one : OnDisk (Store g.row.D.Denot g.D.Disk) g.row.D.Denot). disk_in one (λ s. s.disk)) c.loop-disk.found.items ++ disk_in one (λ s. s.disk) ∷ [] =
    ap (map (λ (one : OnDisk (Store g.row.D.Denot g.D.Disk) g.row.D.Denot). disk_in one (λ s. s.disk))) items ∙ map-append (λ (one : OnDisk (Store g.row.D.Denot g.D.Disk) g.row.D.Denot). disk_in one (λ s. s.disk)) c.loop-disk.found.items (one ∷ []) in
    record {
      whole = one_behind c.loop-disk.yielded c.loop-disk.disk-iterator.rest.items c.next.new.self.rest.items c.args.disks.items disk inv.whole c.in-Some.ensures.steps.0;
      many =
          let long : length c.push_reserved.new.self.items ≡ length (c.loop-disk.found.items ++ one ∷ []) = ap (λ (l : List (OnDisk (Store g.row.D.Denot g.D.Disk) g.row.D.Denot)). length l) items in
          let sum = length-append c.loop-disk.found.items (one ∷ []) in
          let other = length-append c.loop-disk.yielded (disk ∷ []) in
          omega (arith, inv.many);
      count =
          let other = length-append c.loop-disk.yielded (disk ∷ []) in
          omega (arith, inv.count, c.push_reserved.ensures.len);
      room = omega (arith, inv.room, c.push_reserved.ensures.capacity);
      finds = λ keeps is.
          subst (AllZip (IsFound (λ (s : Store g.row.D.Denot g.D.Disk). about_of s.contents) (λ s volume. IsStored s.contents volume (g.D.Disk.gives s.disk) (g.D.Disk.may_leave_now s.disk))) (map g.D.Disk.gives (c.loop-disk.yielded ++ disk ∷ []))) (sym items)
          (all_found-more (λ (s : Store g.row.D.Denot g.D.Disk). about_of s.contents) (λ s volume. IsStored s.contents volume (g.D.Disk.gives s.disk) (g.D.Disk.may_leave_now s.disk)) g.D.Disk.gives c.loop-disk.yielded c.loop-disk.found.items disk one
          (inv.finds keeps (next.first is)) (next.found keeps is));
      reads = λ keeps.
          subst (AllZip (λ disk (one : OnDisk (Store g.row.D.Denot g.D.Disk) g.row.D.Denot). OnlyReads g.D.Disk.gives g.D.Disk.may_leave_now g.D.Disk.moment g.D.Disk.may_have_left_since disk (disk_in one (λ s. s.disk))) (c.loop-disk.yielded ++ disk ∷ [])) (sym items)
          (all_zip-more (λ disk (one : OnDisk (Store g.row.D.Denot g.D.Disk) g.row.D.Denot). OnlyReads g.D.Disk.gives g.D.Disk.may_leave_now g.D.Disk.moment g.D.Disk.may_have_left_since disk (disk_in one (λ s. s.disk))) c.loop-disk.yielded c.loop-disk.found.items disk one (inv.reads keeps) (next.reads keeps));
      running =
          subst (All (MayRun (λ (s : Store g.row.D.Denot g.D.Disk). about_of s.contents))) (sym items)
          (All-append (MayRun (λ (s : Store g.row.D.Denot g.D.Disk). about_of s.contents)) c.loop-disk.found.items (one ∷ []) inv.running (one_item one next.running));
      faulty =
          subst (λ (l : List g.row.D.Denot). IfSome c.find_next.new.fault (IsFaulty g.D.Disk.failures (c.loop-disk.yielded ++ disk ∷ []) l)) (sym back)
          (faulty-more g.D.Disk.failures c.loop-disk.yielded (map (λ (one : OnDisk (Store g.row.D.Denot g.D.Disk) g.row.D.Denot). disk_in one (λ s. s.disk)) c.loop-disk.found.items) disk (disk_in one (λ s. s.disk)) c.loop-disk.fault c.find_next.new.fault c.len-place.result
          place (place ∙ sym inv.many ∙ sym (length-map c.loop-disk.found.items (λ (one : OnDisk (Store g.row.D.Denot g.D.Disk) g.row.D.Denot). disk_in one (λ s. s.disk)))) inv.faulty next.kept next.told next.place next.cause);
    }
  where
    one_item : (one : OnDisk (Store g.row.D.Denot g.D.Disk) g.row.D.Denot) → MayRun (λ (s : Store g.row.D.Denot g.D.Disk). about_of s.contents) one → All (MayRun (λ (s : Store g.row.D.Denot g.D.Disk). about_of s.contents)) (one ∷ [])
    one_item one runs zero d below = runs
    one_item one runs (suc k) d below = absurd (omega arith)

pub returns-in-None-fault-clause-found : goal.returns-in-None-fault-clause-found
returns-in-None-fault-clause-found g c = λ keeps.
    let inv = c.loop-disk.invariant in
    let whole = all_yielded c.loop-disk.yielded c.loop-disk.disk-iterator.rest.items c.args.disks.items inv.whole (none_left c.loop-disk.disk-iterator.rest.items (sym c.loop-disk.disk-iterator.rest.ok.0 ∙ c.in-None.ensures.steps.0)) in
    subst (λ (l : List g.row.D.Denot). AllZip (IsFound (λ (s : Store g.row.D.Denot g.D.Disk). about_of s.contents) (λ s volume. IsStored s.contents volume (g.D.Disk.gives s.disk) (g.D.Disk.may_leave_now s.disk))) (map g.D.Disk.gives l) c.loop-disk.found.items) whole (inv.finds keeps (ap (λ (o : Option Fault). is_some o) c.in-None-fault.is))

pub returns-in-None-fault-clause-reads : goal.returns-in-None-fault-clause-reads
returns-in-None-fault-clause-reads g c = λ keeps.
    let inv = c.loop-disk.invariant in
    let whole = all_yielded c.loop-disk.yielded c.loop-disk.disk-iterator.rest.items c.args.disks.items inv.whole (none_left c.loop-disk.disk-iterator.rest.items (sym c.loop-disk.disk-iterator.rest.ok.0 ∙ c.in-None.ensures.steps.0)) in
    subst (λ (l : List g.row.D.Denot). AllZip (λ disk (one : OnDisk (Store g.row.D.Denot g.D.Disk) g.row.D.Denot). OnlyReads g.D.Disk.gives g.D.Disk.may_leave_now g.D.Disk.moment g.D.Disk.may_have_left_since disk (disk_in one (λ s. s.disk))) l c.loop-disk.found.items) whole (inv.reads keeps)

pub returns-in-None-fault-clause-running : goal.returns-in-None-fault-clause-running
returns-in-None-fault-clause-running g c = c.loop-disk.invariant.running

pub returns-in-None-fault-clause-as_many : goal.returns-in-None-fault-clause-as_many
returns-in-None-fault-clause-as_many g c =
    let inv = c.loop-disk.invariant in
    let whole = all_yielded c.loop-disk.yielded c.loop-disk.disk-iterator.rest.items c.args.disks.items inv.whole (none_left c.loop-disk.disk-iterator.rest.items (sym c.loop-disk.disk-iterator.rest.ok.0 ∙ c.in-None.ensures.steps.0)) in
    inv.many ∙ ap (λ (l : List g.row.D.Denot). length l) whole

pub returns-in-Some-fault-clause-back : goal.returns-in-Some-fault-clause-back
returns-in-Some-fault-clause-back g c = λ keeps.
    let inv = c.loop-disk.invariant in
    let whole = all_yielded c.loop-disk.yielded c.loop-disk.disk-iterator.rest.items c.args.disks.items inv.whole (none_left c.loop-disk.disk-iterator.rest.items (sym c.loop-disk.disk-iterator.rest.ok.0 ∙ c.in-None.ensures.steps.0)) in
    subst (λ (l : List g.row.D.Denot). AllZip (λ disk (one : OnDisk (Store g.row.D.Denot g.D.Disk) g.row.D.Denot). OnlyReads g.D.Disk.gives g.D.Disk.may_leave_now g.D.Disk.moment g.D.Disk.may_have_left_since disk (disk_in one (λ s. s.disk))) l c.loop-disk.found.items) whole (inv.reads keeps)

pub returns-in-Some-fault-clause-all_back : goal.returns-in-Some-fault-clause-all_back
returns-in-Some-fault-clause-all_back g c =
    let inv = c.loop-disk.invariant in
    let whole = all_yielded c.loop-disk.yielded c.loop-disk.disk-iterator.rest.items c.args.disks.items inv.whole (none_left c.loop-disk.disk-iterator.rest.items (sym c.loop-disk.disk-iterator.rest.ok.0 ∙ c.in-None.ensures.steps.0)) in
    inv.many ∙ ap (λ (l : List g.row.D.Denot). length l) whole

-- the first fault
faulty_is : {D : Type 0} (failures : D → ℕ) (yielded disks back : List D) (o : Option Fault) (f : Fault) → IfSome o (IsFaulty failures yielded back) → o ≡ Some f → yielded ≡ disks → IsFaulty failures disks back f
faulty_is {D} failures yielded disks back o f faulty is whole =
    subst (λ (l : List D). IsFaulty failures l back f) whole (subst (λ (o : Option Fault). IfSome o (IsFaulty failures yielded back)) is faulty)

pub returns-in-Some-fault-clause-told : goal.returns-in-Some-fault-clause-told
returns-in-Some-fault-clause-told g c =
    let inv = c.loop-disk.invariant in
    let whole = all_yielded c.loop-disk.yielded c.loop-disk.disk-iterator.rest.items c.args.disks.items inv.whole (none_left c.loop-disk.disk-iterator.rest.items (sym c.loop-disk.disk-iterator.rest.ok.0 ∙ c.in-None.ensures.steps.0)) in
    (faulty_is g.D.Disk.failures c.loop-disk.yielded c.args.disks.items (map (λ (one : OnDisk (Store g.row.D.Denot g.D.Disk) g.row.D.Denot). disk_in one (λ s. s.disk)) c.loop-disk.found.items) c.loop-disk.fault c.in-Some-fault.fault inv.faulty c.in-Some-fault.is whole).0

pub returns-in-Some-fault-clause-fault : goal.returns-in-Some-fault-clause-fault
returns-in-Some-fault-clause-fault g c =
    let inv = c.loop-disk.invariant in
    let whole = all_yielded c.loop-disk.yielded c.loop-disk.disk-iterator.rest.items c.args.disks.items inv.whole (none_left c.loop-disk.disk-iterator.rest.items (sym c.loop-disk.disk-iterator.rest.ok.0 ∙ c.in-None.ensures.steps.0)) in
    (faulty_is g.D.Disk.failures c.loop-disk.yielded c.args.disks.items (map (λ (one : OnDisk (Store g.row.D.Denot g.D.Disk) g.row.D.Denot). disk_in one (λ s. s.disk)) c.loop-disk.found.items) c.loop-disk.fault c.in-Some-fault.fault inv.faulty c.in-Some-fault.is whole).1
