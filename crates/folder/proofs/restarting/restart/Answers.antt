use Rattle.std.proofs.Common.{◌≡◌, ℕ, ◌≤◌, List, [], ◌∷◌, Option, Err, IfSome, map, ap, subst, sym, ◌∙◌}
use Rattle.std.specs.Prelude.{None, Some}
use Rattle.std.specs.List.{AllZip, remove}
use Rattle.configurations.specs.Record.{Record}
use Rattle.configurations.specs.Store.{HoldsOldOrNew}
use Rattle.configurations.specs.declared.member.Member.{Member}
use Rattle.configurations.specs.declared.refusal.Refusal.{Refusal as RecordRefusal}
use Rattle.configurations.specs.declared.refusal.Refusal.TheVariants.{NotNext}
use Rattle.disk_model.specs.Disk.{LeavesOnly}
use Rattle.disk_model.specs.Part.{inside}
use Rattle.gate_journal.specs.Runs.{OnlyReads, reads_nothing}
use Rattle.local_store.specs.About.{about_of, meaning_with}
use Rattle.local_store.specs.Store.{IsStored}
use Rattle.local_store.specs.declared.store.Store.{Store}
use Rattle.recovery.specs.Choice.{IsSource, NoneRecorded}
use Rattle.folder.specs.Chain.{MayGoOn, alone_after, config_part}
use Rattle.folder.specs.Found.{IsLeavingOut, IsMemberAt, disk_in, returned_as}
use Rattle.folder.specs.Restart.{IsAnswered, IsRecordedOver}
use Rattle.folder.specs.declared.found.OnDisk.{OnDisk}
use Rattle.folder.specs.declared.found.OnDisk.TheVariants.{Volume}
use Rattle.folder.specs.declared.refusal.Refusal.{Refusal}
use Rattle.folder.specs.declared.refusal.Refusal.TheVariants.{Chain, Memory, Store as StoreFault}
use Rattle.folder.specs.declared.restarting.Refused.{Refused}
use Rattle.folder.proofs.Answering.{excused, may_not_leave, none_found, some_found, unchosen, unfound, unread, with_source}
use Rattle.folder.proofs.Finding.{all_zip_mapped, all_zip_removed, all_zip_same}
use Rattle.folder.proofs.Recording.{at_end, only_read, recorded_over}
use Rattle.folder.proofs.Sources.{at_right, member_at, none_is_returned, source_for, source_leaves, store_runs}
use Rattle.folder.proofs.restarting.restart.Goals as goal

pub returns-in-Err-clause-all_back : goal.returns-in-Err-clause-all_back
returns-in-Err-clause-all_back g c = λ keeps.
    subst (λ (r : Refused g.row.D.Denot). AllZip (OnlyReads g.D.Disk.gives g.D.Disk.may_leave_now g.D.Disk.moment g.D.Disk.may_have_left_since) c.args.disks.items r.disks.items) (sym c.alone.ensures)
    (all_zip_same (OnlyReads g.D.Disk.gives g.D.Disk.may_leave_now g.D.Disk.moment g.D.Disk.may_have_left_since) c.args.disks.items (λ disk. reads_nothing disk (g.met.D.Disk.only_now keeps disk)))

pub returns-in-Err-clause-refused : goal.returns-in-Err-clause-refused
returns-in-Err-clause-refused g c = λ keeps.
    subst (λ (r : Refused g.row.D.Denot). IsAnswered c.args.alone (g.D.Disk.size c.args.config) (g.D.Disk.gives c.args.config) (map g.D.Disk.gives c.args.disks.items) (Some r.refusal)) (sym c.alone.ensures)
    (unread c.args.alone (g.D.Disk.size c.args.config) (g.D.Disk.gives c.args.config) (map g.D.Disk.gives c.args.disks.items) c.in-Err.refusal c.in-Err.ensures.told (λ is. c.in-Err.ensures.none keeps (ap (λ (r : RecordRefusal). Err r) is)))

pub returns-in_default-clause-all_back : goal.returns-in_default-clause-all_back
returns-in_default-clause-all_back g c = λ keeps.
    subst (λ (r : Refused g.row.D.Denot). AllZip (OnlyReads g.D.Disk.gives g.D.Disk.may_leave_now g.D.Disk.moment g.D.Disk.may_have_left_since) c.args.disks.items r.disks.items) (sym c.alone-in_default.ensures)
    (all_zip_same (OnlyReads g.D.Disk.gives g.D.Disk.may_leave_now g.D.Disk.moment g.D.Disk.may_have_left_since) c.args.disks.items (λ disk. reads_nothing disk (g.met.D.Disk.only_now keeps disk)))

pub returns-in_default-with_capacity-clause-back : goal.returns-in_default-with_capacity-clause-back
returns-in_default-with_capacity-clause-back g c = λ keeps.
    subst (λ (r : Refused g.row.D.Denot). LeavesOnly g.D.Disk.moment g.D.Disk.may_have_left_since c.args.config r.config (IsRecordedOver (g.D.Disk.may_leave_now c.args.config) (g.D.Disk.gives c.args.config) (map g.D.Disk.gives c.args.disks.items))) (sym c.alone-in_default-with_capacity.ensures)
    (only_read g.D.Disk.moment g.D.Disk.may_have_left_since g.D.Disk.gives g.D.Disk.may_leave_now c.args.config c.open_config.new.disk (map g.D.Disk.gives c.args.disks.items) (c.open_config.ensures.reads keeps))

pub returns-in_default-with_capacity-clause-all_back : goal.returns-in_default-with_capacity-clause-all_back
returns-in_default-with_capacity-clause-all_back g c = λ keeps.
    subst (λ (r : Refused g.row.D.Denot). AllZip (OnlyReads g.D.Disk.gives g.D.Disk.may_leave_now g.D.Disk.moment g.D.Disk.may_have_left_since) c.args.disks.items r.disks.items) (sym c.alone-in_default-with_capacity.ensures)
    (all_zip_same (OnlyReads g.D.Disk.gives g.D.Disk.may_leave_now g.D.Disk.moment g.D.Disk.may_have_left_since) c.args.disks.items (λ disk. reads_nothing disk (g.met.D.Disk.only_now keeps disk)))

pub returns-in_default-with_capacity-clause-refused : goal.returns-in_default-with_capacity-clause-refused
returns-in_default-with_capacity-clause-refused g c = λ keeps.
    subst (λ (r : Refused g.row.D.Denot). IsAnswered c.args.alone (g.D.Disk.size c.args.config) (g.D.Disk.gives c.args.config) (map g.D.Disk.gives c.args.disks.items) (Some r.refusal)) (sym c.alone-in_default-with_capacity.ensures)
    (excused c.args.alone (g.D.Disk.size c.args.config) (g.D.Disk.gives c.args.config) (map g.D.Disk.gives c.args.disks.items) Memory tt)

pub returns-in-Err-find_all-clause-back : goal.returns-in-Err-find_all-clause-back
returns-in-Err-find_all-clause-back g c = λ keeps.
    only_read g.D.Disk.moment g.D.Disk.may_have_left_since g.D.Disk.gives g.D.Disk.may_leave_now c.args.config c.open_config.new.disk (map g.D.Disk.gives c.args.disks.items) (c.open_config.ensures.reads keeps)

pub returns-in-Err-find_all-clause-all_back : goal.returns-in-Err-find_all-clause-all_back
returns-in-Err-find_all-clause-all_back g c = λ keeps.
    subst (AllZip (OnlyReads g.D.Disk.gives g.D.Disk.may_leave_now g.D.Disk.moment g.D.Disk.may_have_left_since) c.args.disks.items) (sym c.all_disks.ensures) (all_zip_mapped (OnlyReads g.D.Disk.gives g.D.Disk.may_leave_now g.D.Disk.moment g.D.Disk.may_have_left_since) (λ (one : OnDisk (Store g.row.D.Denot g.D.Disk) g.row.D.Denot). disk_in one (λ s. s.disk)) c.args.disks.items c.in-Err-find_all.unfound.each.items (c.in-Err-find_all.ensures.back keeps))

pub returns-in-Err-find_all-clause-refused : goal.returns-in-Err-find_all-clause-refused
returns-in-Err-find_all-clause-refused g c = λ keeps.
    unfound c.args.alone (g.D.Disk.size c.args.config) (g.D.Disk.gives c.args.config) (map g.D.Disk.gives c.args.disks.items) (StoreFault c.in-Err-find_all.unfound.fault.refusal) c.in-Err-find_all.ensures.told

pub returns-in-Err-choose_allowed-clause-back : goal.returns-in-Err-choose_allowed-clause-back
returns-in-Err-choose_allowed-clause-back g c = λ keeps.
    subst (λ (r : Refused g.row.D.Denot). LeavesOnly g.D.Disk.moment g.D.Disk.may_have_left_since c.args.config r.config (IsRecordedOver (g.D.Disk.may_leave_now c.args.config) (g.D.Disk.gives c.args.config) (map g.D.Disk.gives c.args.disks.items))) (sym c.alone-in-Err-choose_allowed.ensures)
    (only_read g.D.Disk.moment g.D.Disk.may_have_left_since g.D.Disk.gives g.D.Disk.may_leave_now c.args.config c.open_config.new.disk (map g.D.Disk.gives c.args.disks.items) (c.open_config.ensures.reads keeps))

pub returns-in-Err-choose_allowed-clause-all_back : goal.returns-in-Err-choose_allowed-clause-all_back
returns-in-Err-choose_allowed-clause-all_back g c = λ keeps.
    subst (λ (r : Refused g.row.D.Denot). AllZip (OnlyReads g.D.Disk.gives g.D.Disk.may_leave_now g.D.Disk.moment g.D.Disk.may_have_left_since) c.args.disks.items r.disks.items) (sym c.alone-in-Err-choose_allowed.ensures)
    (subst (AllZip (OnlyReads g.D.Disk.gives g.D.Disk.may_leave_now g.D.Disk.moment g.D.Disk.may_have_left_since) c.args.disks.items) (sym c.all_disks-in-Err-choose_allowed.ensures) (all_zip_mapped (OnlyReads g.D.Disk.gives g.D.Disk.may_leave_now g.D.Disk.moment g.D.Disk.may_have_left_since) (λ (one : OnDisk (Store g.row.D.Denot g.D.Disk) g.row.D.Denot). disk_in one (λ s. s.disk)) c.args.disks.items c.in-Ok-find_all.found.items (c.in-Ok-find_all.ensures.reads keeps)))

pub returns-in-Err-choose_allowed-clause-strangers : goal.returns-in-Err-choose_allowed-clause-strangers
returns-in-Err-choose_allowed-clause-strangers g c = λ keeps is.
    let about = λ (s : Store g.row.D.Denot g.D.Disk). about_of s.contents in
    let stored = λ (s : Store g.row.D.Denot g.D.Disk) (volume : List ℕ). IsStored s.contents volume (g.D.Disk.gives s.disk) (g.D.Disk.may_leave_now s.disk) in
    let found = c.in-Ok-find_all.found.items in
    let told = c.in-Err-choose_allowed.ensures.strangers (ap (λ (r : Refusal). Err r) (sym (ap (λ (x : Refused g.row.D.Denot). x.refusal) c.alone-in-Err-choose_allowed.ensures) ∙ is)) in
    let none = subst (λ (r : Record). NoneRecorded r.members (map (returned_as about) found)) c.current.ensures (subst (λ (l : List (OnDisk (Store g.row.D.Denot g.D.Disk) g.row.D.Denot)). NoneRecorded c.current.result.now.members (map (returned_as about) l)) c.deref.ensures.value told) in (
      c.in-Ok.configs.current,
      c.in-Ok.ensures.found keeps,
      none_is_returned about stored c.disks_mean_one.ensures c.in-Ok.configs.current.members (map g.D.Disk.gives c.args.disks.items) found (c.in-Ok-find_all.ensures.found keeps) none,
    )

pub returns-in-Err-choose_allowed-clause-others_recorded : goal.returns-in-Err-choose_allowed-clause-others_recorded
returns-in-Err-choose_allowed-clause-others_recorded g c = λ keeps is.
    let about = λ (s : Store g.row.D.Denot g.D.Disk). about_of s.contents in
    let stored = λ (s : Store g.row.D.Denot g.D.Disk) (volume : List ℕ). IsStored s.contents volume (g.D.Disk.gives s.disk) (g.D.Disk.may_leave_now s.disk) in
    let found = c.in-Ok-find_all.found.items in
    source_leaves about stored c.disks_mean_one.ensures c.current.result.now c.in-Ok.configs.current c.current.ensures (map g.D.Disk.gives c.args.disks.items) found (c.in-Ok-find_all.ensures.found keeps)
    c.args.alone (g.D.Disk.gives c.args.config) (c.in-Ok.ensures.found keeps) (subst (IsLeavingOut about c.args.alone c.current.result.now) c.deref.ensures.value (c.in-Err-choose_allowed.ensures.others (ap (λ (r : Refusal). Err r) (sym (ap (λ (x : Refused g.row.D.Denot). x.refusal) c.alone-in-Err-choose_allowed.ensures) ∙ is))))

pub returns-in-Err-choose_allowed-clause-unrecorded : goal.returns-in-Err-choose_allowed-clause-unrecorded
returns-in-Err-choose_allowed-clause-unrecorded g c = λ keeps is.
    subst (λ (r : Refused g.row.D.Denot). OnlyReads g.D.Disk.gives g.D.Disk.may_leave_now g.D.Disk.moment g.D.Disk.may_have_left_since c.args.config r.config) (sym c.alone-in-Err-choose_allowed.ensures) (c.open_config.ensures.reads keeps)

pub returns-in-Err-choose_allowed-clause-refused : goal.returns-in-Err-choose_allowed-clause-refused
returns-in-Err-choose_allowed-clause-refused g c = λ keeps.
    subst (λ (r : Refused g.row.D.Denot). IsAnswered c.args.alone (g.D.Disk.size c.args.config) (g.D.Disk.gives c.args.config) (map g.D.Disk.gives c.args.disks.items) (Some r.refusal)) (sym c.alone-in-Err-choose_allowed.ensures)
    (unchosen c.args.alone (g.D.Disk.size c.args.config) (g.D.Disk.gives c.args.config) (map g.D.Disk.gives c.args.disks.items) c.records_are_one.ensures c.in-Ok.configs.current (subst (λ (n : ℕ). config_part.len ≤ n) c.open_config.ensures.size c.in-Ok.ensures.room) (c.in-Ok.ensures.found keeps) c.in-Err-choose_allowed.refusal c.in-Err-choose_allowed.ensures.told
    (λ is. none_found g.D.Disk.gives c.in-Ok-find_all.found.items c.args.disks.items c.in-Ok-find_all.ensures.as_many (sym c.deref.ensures.value ∙ c.in-Err-choose_allowed.ensures.none (ap (λ (r : Refusal). Err r) is)))
    (λ is. some_found g.D.Disk.gives c.in-Ok-find_all.found.items c.args.disks.items c.in-Ok-find_all.ensures.as_many (λ empty. c.in-Err-choose_allowed.ensures.some (ap (λ (r : Refusal). Err r) is) (c.deref.ensures.value ∙ empty)))
    (λ is. returns-in-Err-choose_allowed-clause-strangers g c keeps (ap (λ (x : Refused g.row.D.Denot). x.refusal) c.alone-in-Err-choose_allowed.ensures ∙ is))
    (λ is. returns-in-Err-choose_allowed-clause-others_recorded g c keeps (ap (λ (x : Refused g.row.D.Denot). x.refusal) c.alone-in-Err-choose_allowed.ensures ∙ is)))

pub take_store-store-requires-clause-there : goal.take_store-store-requires-clause-there
take_store-store-requires-clause-there g c =
    let about = λ (s : Store g.row.D.Denot g.D.Disk). about_of s.contents in
    let stored = λ (s : Store g.row.D.Denot g.D.Disk) (volume : List ℕ). IsStored s.contents volume (g.D.Disk.gives s.disk) (g.D.Disk.may_leave_now s.disk) in
    let found = c.in-Ok-find_all.found.items in
    let chosen = c.in-Ok-choose_allowed.chosen in
    let member = subst (λ (l : List (OnDisk (Store g.row.D.Denot g.D.Disk) g.row.D.Denot)). IsMemberAt about l chosen.place chosen.member) c.deref.ensures.value c.in-Ok-choose_allowed.ensures.member in
    (member.store, member.there)

pub returns-in-Ok-record_alone-clause-goes_on : goal.returns-in-Ok-record_alone-clause-goes_on
returns-in-Ok-record_alone-clause-goes_on g c = λ keeps.
    let about = λ (s : Store g.row.D.Denot g.D.Disk). about_of s.contents in
    let stored = λ (s : Store g.row.D.Denot g.D.Disk) (volume : List ℕ). IsStored s.contents volume (g.D.Disk.gives s.disk) (g.D.Disk.may_leave_now s.disk) in
    let found = c.in-Ok-find_all.found.items in
    let chosen = c.in-Ok-choose_allowed.chosen in
    let member = subst (λ (l : List (OnDisk (Store g.row.D.Denot g.D.Disk) g.row.D.Denot)). IsMemberAt about l chosen.place chosen.member) c.deref.ensures.value c.in-Ok-choose_allowed.ensures.member in
    let source = subst (λ (l : List (OnDisk (Store g.row.D.Denot g.D.Disk) g.row.D.Denot)). IsSource c.current.result.now.members (map (returned_as about) l) chosen.place) c.deref.ensures.value c.in-Ok-choose_allowed.ensures.source in
    let got = source_for about stored c.disks_mean_one.ensures c.current.result.now c.in-Ok.configs.current c.current.ensures (map g.D.Disk.gives c.args.disks.items) found (c.in-Ok-find_all.ensures.found keeps)
    chosen.place c.take_store-store.result.0 c.take_store-store.ensures.store source in
    record {
      old = c.in-Ok.configs.current;
      recorded = c.in-Ok.ensures.found keeps;
      volume = got.0;
      source = got.2;
      kept = got.1;
      next = c.in-Ok-record_alone.ensures.«record» ∙ ap (alone_after c.in-Ok.configs.current) (member_at about found chosen.place c.take_store-store.result.0 c.take_store-store.ensures.store chosen.member member);
    }

pub returns-in-Ok-record_alone-clause-alone : goal.returns-in-Ok-record_alone-clause-alone
returns-in-Ok-record_alone-clause-alone g c =
    let about = λ (s : Store g.row.D.Denot g.D.Disk). about_of s.contents in
    let stored = λ (s : Store g.row.D.Denot g.D.Disk) (volume : List ℕ). IsStored s.contents volume (g.D.Disk.gives s.disk) (g.D.Disk.may_leave_now s.disk) in
    let found = c.in-Ok-find_all.found.items in
    let chosen = c.in-Ok-choose_allowed.chosen in
    let member = subst (λ (l : List (OnDisk (Store g.row.D.Denot g.D.Disk) g.row.D.Denot)). IsMemberAt about l chosen.place chosen.member) c.deref.ensures.value c.in-Ok-choose_allowed.ensures.member in
    ap (λ (r : Record). r.members) c.in-Ok-record_alone.ensures.«record» ∙ ap (λ (m : Member). m ∷ []) (member_at about found chosen.place c.take_store-store.result.0 c.take_store-store.ensures.store chosen.member member)

pub returns-in-Ok-record_alone-clause-running : goal.returns-in-Ok-record_alone-clause-running
returns-in-Ok-record_alone-clause-running g c =
    let about = λ (s : Store g.row.D.Denot g.D.Disk). about_of s.contents in
    let stored = λ (s : Store g.row.D.Denot g.D.Disk) (volume : List ℕ). IsStored s.contents volume (g.D.Disk.gives s.disk) (g.D.Disk.may_leave_now s.disk) in
    store_runs about c.in-Ok-find_all.found.items c.in-Ok-choose_allowed.chosen.place c.take_store-store.result.0 c.take_store-store.ensures.store c.in-Ok-find_all.ensures.running

pub returns-in-Ok-record_alone-clause-reads : goal.returns-in-Ok-record_alone-clause-reads
returns-in-Ok-record_alone-clause-reads g c = λ keeps.
    let store = c.take_store-store.result.0 in
    let got = at_right (λ disk (one : OnDisk (Store g.row.D.Denot g.D.Disk) g.row.D.Denot). OnlyReads g.D.Disk.gives g.D.Disk.may_leave_now g.D.Disk.moment g.D.Disk.may_have_left_since disk (disk_in one (λ s. s.disk))) c.args.disks.items c.in-Ok-find_all.found.items (c.in-Ok-find_all.ensures.reads keeps) c.in-Ok-choose_allowed.chosen.place (Volume store) c.take_store-store.ensures.store in
    subst (λ (o : Option g.row.D.Denot). IfSome o (λ disk. OnlyReads g.D.Disk.gives g.D.Disk.may_leave_now g.D.Disk.moment g.D.Disk.may_have_left_since disk store.disk)) (sym got.1) got.2

pub returns-in-Ok-record_alone-clause-others : goal.returns-in-Ok-record_alone-clause-others
returns-in-Ok-record_alone-clause-others g c = λ keeps.
    let place = c.in-Ok-choose_allowed.chosen.place in
    let found = c.in-Ok-find_all.found.items in
    subst (AllZip (OnlyReads g.D.Disk.gives g.D.Disk.may_leave_now g.D.Disk.moment g.D.Disk.may_have_left_since) (remove c.args.disks.items place)) (sym c.take_store-store.ensures.others)
    (all_zip_mapped (OnlyReads g.D.Disk.gives g.D.Disk.may_leave_now g.D.Disk.moment g.D.Disk.may_have_left_since) (λ (one : OnDisk (Store g.row.D.Denot g.D.Disk) g.row.D.Denot). disk_in one (λ s. s.disk)) (remove c.args.disks.items place) (remove found place) (all_zip_removed (λ disk (one : OnDisk (Store g.row.D.Denot g.D.Disk) g.row.D.Denot). OnlyReads g.D.Disk.gives g.D.Disk.may_leave_now g.D.Disk.moment g.D.Disk.may_have_left_since disk (disk_in one (λ s. s.disk))) c.args.disks.items found place (c.in-Ok-find_all.ensures.reads keeps)))

pub returns-in-Ok-record_alone-clause-any_moment : goal.returns-in-Ok-record_alone-clause-any_moment
returns-in-Ok-record_alone-clause-any_moment g c = λ keeps.
    let about = λ (s : Store g.row.D.Denot g.D.Disk). about_of s.contents in
    let stored = λ (s : Store g.row.D.Denot g.D.Disk) (volume : List ℕ). IsStored s.contents volume (g.D.Disk.gives s.disk) (g.D.Disk.may_leave_now s.disk) in
    let found = c.in-Ok-find_all.found.items in
    let chosen = c.in-Ok-choose_allowed.chosen in
    let member = subst (λ (l : List (OnDisk (Store g.row.D.Denot g.D.Disk) g.row.D.Denot)). IsMemberAt about l chosen.place chosen.member) c.deref.ensures.value c.in-Ok-choose_allowed.ensures.member in
    let source = subst (λ (l : List (OnDisk (Store g.row.D.Denot g.D.Disk) g.row.D.Denot)). IsSource c.current.result.now.members (map (returned_as about) l) chosen.place) c.deref.ensures.value c.in-Ok-choose_allowed.ensures.source in
    let got = source_for about stored c.disks_mean_one.ensures c.current.result.now c.in-Ok.configs.current c.current.ensures (map g.D.Disk.gives c.args.disks.items) found (c.in-Ok-find_all.ensures.found keeps)
    chosen.place c.take_store-store.result.0 c.take_store-store.ensures.store source in
    let run = subst (λ (m : Member). LeavesOnly g.D.Disk.moment g.D.Disk.may_have_left_since c.open_config.new.disk c.record_alone.new.disk (λ x. HoldsOldOrNew c.in-Ok.configs.current (alone_after c.in-Ok.configs.current m) (inside config_part x)))
    (member_at about found chosen.place c.take_store-store.result.0 c.take_store-store.ensures.store chosen.member member) (c.record_alone.ensures.any_moment keeps (c.in-Ok.ensures.settled keeps)) in
    recorded_over g.D.Disk.moment g.D.Disk.may_have_left_since g.D.Disk.gives g.D.Disk.may_leave_now c.args.config c.open_config.new.disk c.record_alone.new.disk (map g.D.Disk.gives c.args.disks.items) chosen.place
    c.in-Ok.configs.current (meaning_with (about c.take_store-store.result.0) got.0) (c.open_config.ensures.reads keeps) (c.in-Ok.ensures.found keeps) got.2 run

pub returns-in-Ok-record_alone-clause-allowed : goal.returns-in-Ok-record_alone-clause-allowed
returns-in-Ok-record_alone-clause-allowed g c = λ keeps. (c.in-Ok.configs.current, c.in-Ok.ensures.found keeps, subst (MayGoOn c.args.alone) c.current.ensures c.in-Ok-choose_allowed.ensures.allowed)

pub returns-in-Ok-record_alone-clause-done : goal.returns-in-Ok-record_alone-clause-done
returns-in-Ok-record_alone-clause-done g c = λ keeps.
    let about = λ (s : Store g.row.D.Denot g.D.Disk). about_of s.contents in
    let stored = λ (s : Store g.row.D.Denot g.D.Disk) (volume : List ℕ). IsStored s.contents volume (g.D.Disk.gives s.disk) (g.D.Disk.may_leave_now s.disk) in
    let found = c.in-Ok-find_all.found.items in
    let chosen = c.in-Ok-choose_allowed.chosen in
    let member = subst (λ (l : List (OnDisk (Store g.row.D.Denot g.D.Disk) g.row.D.Denot)). IsMemberAt about l chosen.place chosen.member) c.deref.ensures.value c.in-Ok-choose_allowed.ensures.member in
    let source = subst (λ (l : List (OnDisk (Store g.row.D.Denot g.D.Disk) g.row.D.Denot)). IsSource c.current.result.now.members (map (returned_as about) l) chosen.place) c.deref.ensures.value c.in-Ok-choose_allowed.ensures.source in
    let got = source_for about stored c.disks_mean_one.ensures c.current.result.now c.in-Ok.configs.current c.current.ensures (map g.D.Disk.gives c.args.disks.items) found (c.in-Ok-find_all.ensures.found keeps)
    chosen.place c.take_store-store.result.0 c.take_store-store.ensures.store source in
    with_source c.args.alone (g.D.Disk.size c.args.config) (g.D.Disk.gives c.args.config) (map g.D.Disk.gives c.args.disks.items) c.records_are_one.ensures c.in-Ok.configs.current (subst (λ (n : ℕ). config_part.len ≤ n) c.open_config.ensures.size c.in-Ok.ensures.room) (c.in-Ok.ensures.found keeps) chosen.place (meaning_with (about c.take_store-store.result.0) got.0) None got.2
    (λ leaves. absurd (may_not_leave c.args.alone c.in-Ok.configs.current (subst (MayGoOn c.args.alone) c.current.ensures c.in-Ok-choose_allowed.ensures.allowed) leaves))

pub returns-in-Err-record_alone-clause-back : goal.returns-in-Err-record_alone-clause-back
returns-in-Err-record_alone-clause-back g c = λ keeps.
    let about = λ (s : Store g.row.D.Denot g.D.Disk). about_of s.contents in
    let stored = λ (s : Store g.row.D.Denot g.D.Disk) (volume : List ℕ). IsStored s.contents volume (g.D.Disk.gives s.disk) (g.D.Disk.may_leave_now s.disk) in
    let found = c.in-Ok-find_all.found.items in
    let chosen = c.in-Ok-choose_allowed.chosen in
    let member = subst (λ (l : List (OnDisk (Store g.row.D.Denot g.D.Disk) g.row.D.Denot)). IsMemberAt about l chosen.place chosen.member) c.deref.ensures.value c.in-Ok-choose_allowed.ensures.member in
    let source = subst (λ (l : List (OnDisk (Store g.row.D.Denot g.D.Disk) g.row.D.Denot)). IsSource c.current.result.now.members (map (returned_as about) l) chosen.place) c.deref.ensures.value c.in-Ok-choose_allowed.ensures.source in
    let got = source_for about stored c.disks_mean_one.ensures c.current.result.now c.in-Ok.configs.current c.current.ensures (map g.D.Disk.gives c.args.disks.items) found (c.in-Ok-find_all.ensures.found keeps)
    chosen.place member.store member.there source in
    let run = subst (λ (m : Member). LeavesOnly g.D.Disk.moment g.D.Disk.may_have_left_since c.open_config.new.disk c.record_alone.new.disk (λ x. HoldsOldOrNew c.in-Ok.configs.current (alone_after c.in-Ok.configs.current m) (inside config_part x)))
    (member_at about found chosen.place member.store member.there chosen.member member) (c.record_alone.ensures.any_moment keeps (c.in-Ok.ensures.settled keeps)) in
    subst (λ (r : Refused g.row.D.Denot). LeavesOnly g.D.Disk.moment g.D.Disk.may_have_left_since c.args.config r.config (IsRecordedOver (g.D.Disk.may_leave_now c.args.config) (g.D.Disk.gives c.args.config) (map g.D.Disk.gives c.args.disks.items))) (sym c.alone-in-Err-record_alone.ensures)
    (recorded_over g.D.Disk.moment g.D.Disk.may_have_left_since g.D.Disk.gives g.D.Disk.may_leave_now c.args.config c.open_config.new.disk c.record_alone.new.disk (map g.D.Disk.gives c.args.disks.items) chosen.place
    c.in-Ok.configs.current (meaning_with (about member.store) got.0) (c.open_config.ensures.reads keeps) (c.in-Ok.ensures.found keeps) got.2 run)

pub returns-in-Err-record_alone-clause-all_back : goal.returns-in-Err-record_alone-clause-all_back
returns-in-Err-record_alone-clause-all_back g c = λ keeps.
    subst (λ (r : Refused g.row.D.Denot). AllZip (OnlyReads g.D.Disk.gives g.D.Disk.may_leave_now g.D.Disk.moment g.D.Disk.may_have_left_since) c.args.disks.items r.disks.items) (sym c.alone-in-Err-record_alone.ensures)
    (subst (AllZip (OnlyReads g.D.Disk.gives g.D.Disk.may_leave_now g.D.Disk.moment g.D.Disk.may_have_left_since) c.args.disks.items) (sym c.all_disks-disks.ensures) (all_zip_mapped (OnlyReads g.D.Disk.gives g.D.Disk.may_leave_now g.D.Disk.moment g.D.Disk.may_have_left_since) (λ (one : OnDisk (Store g.row.D.Denot g.D.Disk) g.row.D.Denot). disk_in one (λ s. s.disk)) c.args.disks.items c.in-Ok-find_all.found.items (c.in-Ok-find_all.ensures.reads keeps)))

pub returns-in-Err-record_alone-clause-not_next : goal.returns-in-Err-record_alone-clause-not_next
returns-in-Err-record_alone-clause-not_next g c = λ keeps is.
    let told = sym (ap (λ (x : Refused g.row.D.Denot). x.refusal) c.alone-in-Err-record_alone.ensures) ∙ is in
    let e : c.in-Err-record_alone.refusal ≡ NotNext = cc in
    at_end c.in-Ok.configs (g.D.Disk.gives c.open_config.new.disk) (g.D.Disk.gives c.args.config) (g.D.Disk.may_leave_now c.open_config.new.disk) (c.in-Ok.ensures.settled keeps) c.in-Ok.ensures.part
    (c.open_config.ensures.reads keeps).same (c.in-Err-record_alone.ensures.not_next (ap (λ (r : RecordRefusal). Err r) e))

pub returns-in-Err-record_alone-clause-refused : goal.returns-in-Err-record_alone-clause-refused
returns-in-Err-record_alone-clause-refused g c = λ keeps.
    let about = λ (s : Store g.row.D.Denot g.D.Disk). about_of s.contents in
    let stored = λ (s : Store g.row.D.Denot g.D.Disk) (volume : List ℕ). IsStored s.contents volume (g.D.Disk.gives s.disk) (g.D.Disk.may_leave_now s.disk) in
    let found = c.in-Ok-find_all.found.items in
    let chosen = c.in-Ok-choose_allowed.chosen in
    let member = subst (λ (l : List (OnDisk (Store g.row.D.Denot g.D.Disk) g.row.D.Denot)). IsMemberAt about l chosen.place chosen.member) c.deref.ensures.value c.in-Ok-choose_allowed.ensures.member in
    let source = subst (λ (l : List (OnDisk (Store g.row.D.Denot g.D.Disk) g.row.D.Denot)). IsSource c.current.result.now.members (map (returned_as about) l) chosen.place) c.deref.ensures.value c.in-Ok-choose_allowed.ensures.source in
    let got = source_for about stored c.disks_mean_one.ensures c.current.result.now c.in-Ok.configs.current c.current.ensures (map g.D.Disk.gives c.args.disks.items) found (c.in-Ok-find_all.ensures.found keeps)
    chosen.place member.store member.there source in
    subst (λ (r : Refused g.row.D.Denot). IsAnswered c.args.alone (g.D.Disk.size c.args.config) (g.D.Disk.gives c.args.config) (map g.D.Disk.gives c.args.disks.items) (Some r.refusal)) (sym c.alone-in-Err-record_alone.ensures)
    (with_source c.args.alone (g.D.Disk.size c.args.config) (g.D.Disk.gives c.args.config) (map g.D.Disk.gives c.args.disks.items) c.records_are_one.ensures c.in-Ok.configs.current (subst (λ (n : ℕ). config_part.len ≤ n) c.open_config.ensures.size c.in-Ok.ensures.room) (c.in-Ok.ensures.found keeps) chosen.place (meaning_with (about member.store) got.0) (Some (Chain c.in-Err-record_alone.refusal)) got.2
    (λ leaves. absurd (may_not_leave c.args.alone c.in-Ok.configs.current (subst (MayGoOn c.args.alone) c.current.ensures c.in-Ok-choose_allowed.ensures.allowed) leaves)))
