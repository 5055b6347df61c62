use Rattle.std.proofs.Common.{◌∙◌, ◌∷◌, [], ap, map, sym, subst, ℕ}
use Rattle.std.specs.Prelude.{All, IfSome, slice_get}
use Rattle.std.specs.List.{AllZip, remove}
use Rattle.std.proofs.lemmas.Bool.{false≢true}
use Rattle.configurations.specs.Record.{Record}
use Rattle.configurations.specs.Store.{IsSettledConfig, State}
use Rattle.configurations.specs.declared.member.Member.{Member}
use Rattle.disk_model.specs.Disk.{LeavesOnly}
use Rattle.gate_journal.specs.Runs.{OnlyReads}
use Rattle.local_store.specs.About.{about_of, meaning_with}
use Rattle.local_store.specs.Meaning.{Meaning, Means}
use Rattle.local_store.specs.Store.{IsStored}
use Rattle.local_store.specs.declared.store.Store.{Store}
use Rattle.folder.specs.Disks.{IsSourceOf}
use Rattle.folder.specs.Restart.{IsRecordedOver}
use Rattle.folder.specs.declared.restarting.Opened.{Opened}
use Rattle.comeback.specs.Recovering.{IsSlotAt, IsUnmigrated, LeavesMeaning}
use Rattle.comeback.proofs.Setting.{alone_one, hold_one}
use Rattle.comeback.proofs.Sources.{as_it_was, slot_at, still_there, version_one}
use Rattle.comeback.proofs.recovering.recover.Goals as goal

pub migrate-requires-clause-keeps : goal.migrate-requires-clause-keeps
migrate-requires-clause-keeps g c = λ keeps. let on = c.in-Ok.ensures.goes_on keeps in (on.volume, on.kept)

pub new-requires-clause-keeps : goal.new-requires-clause-keeps
new-requires-clause-keeps g c = λ keeps. let on = c.in-Ok.ensures.goes_on keeps in (on.volume, c.in_default.ensures.kept keeps on.volume on.kept)

pub returns-in-Err-migrate-clause-unmigrated : goal.returns-in-Err-migrate-clause-unmigrated
returns-in-Err-migrate-clause-unmigrated g c = λ keeps.
    let on = c.in-Ok.ensures.goes_on keeps in
    subst (λ (o : Opened g.row.D.Denot g.D.Disk). IsUnmigrated (λ s. about_of s.contents) (λ s volume. IsStored s.contents volume (g.D.Disk.gives s.disk) (g.D.Disk.may_leave_now s.disk))
    g.D.Disk.gives g.D.Disk.may_leave_now g.D.Disk.moment g.D.Disk.may_have_left_since g.D.Disk.failures c.args.config c.args.disks.items c.in-Err-migrate.refusal o) (sym c.in-Err-migrate.ensures.same) (record {
      was = c.in-Ok.opened.store;
      goes_on = on;
      version = version_one (about_of c.in-Ok.opened.store.contents).version (λ two. false≢true (c.in-Err-migrate.ensures.untouched two).0);
      reads = c.in-Ok.ensures.reads keeps;
      told = c.in-Err-migrate.ensures.told keeps;
      cause = c.in-Err-migrate.ensures.cause;
      broken = c.in-Err-migrate.ensures.err keeps;
      means = c.in-Err-migrate.ensures.any_moment keeps on.volume on.kept;
      settled = c.in-Ok.ensures.settled keeps;
      current = c.in-Ok.ensures.records.0;
      part = c.in-Ok.ensures.records.1;
      any_moment = c.in-Ok.ensures.any_moment keeps;
      others = c.in-Ok.ensures.others keeps;
    })

pub returns-in-Ok-new-clause-comes_back : goal.returns-in-Ok-new-clause-comes_back
returns-in-Ok-new-clause-comes_back g c = λ keeps.
    let on = c.in-Ok.ensures.goes_on keeps in
    let was = as_it_was (about_of c.in-Ok.opened.store.contents) (about_of c.migrate.new.self.store.contents) c.in_default.ensures.about in
    record {
      old = on.old;
      recorded = on.recorded;
      meaning = meaning_with (about_of c.in-Ok.opened.store.contents) on.volume;
      source = subst (λ (place : ℕ). IsSourceOf on.old.members (map g.D.Disk.gives c.args.disks.items) place (meaning_with (about_of c.in-Ok.opened.store.contents) on.volume)) (sym (ap (λ o. o.place) c.migrate.ensures.same)) on.source;
      front = c.in-Ok-new.ensures.front ∙ was.0;
      sizes = c.in-Ok-new.ensures.sizes ∙ was.1;
      alone = alone_one c.migrate.new.self.store c.in-Ok-new.comeback.world.chain c.in-Ok-new.ensures.one;
      keep = hold_one (λ s. IsStored s.contents on.volume (g.D.Disk.gives s.disk) (g.D.Disk.may_leave_now s.disk)) c.migrate.new.self.store c.in-Ok-new.comeback.world.chain c.in-Ok-new.ensures.one (c.in_default.ensures.kept keeps on.volume on.kept);
      next = c.in-Ok-new.ensures.recorded ∙ ap (λ o. o.«record») c.migrate.ensures.same ∙ on.next;
    }

pub returns-in-Ok-new-clause-source : goal.returns-in-Ok-new-clause-source
returns-in-Ok-new-clause-source g c = λ keeps.
    let was = as_it_was (about_of c.in-Ok.opened.store.contents) (about_of c.migrate.new.self.store.contents) c.in_default.ensures.about in
    subst (λ (place : ℕ). IsSlotAt (map g.D.Disk.gives c.args.disks.items) place c.source-source.result) (sym (ap (λ o. o.place) c.migrate.ensures.same))
    (slot_at (λ (s : Store g.row.D.Denot g.D.Disk). about_of s.contents) (λ s volume. IsStored s.contents volume (g.D.Disk.gives s.disk) (g.D.Disk.may_leave_now s.disk)) (g.D.Disk.gives c.args.config) (map g.D.Disk.gives c.args.disks.items)
    c.in-Ok.opened.place c.in-Ok.opened.store c.in-Ok.opened.«record» c.source-source.result (c.in-Ok.ensures.goes_on keeps) (c.source-source.ensures ∙ was.2))

pub returns-in-Ok-new-clause-alone : goal.returns-in-Ok-new-clause-alone
returns-in-Ok-new-clause-alone g c =
    let was = as_it_was (about_of c.in-Ok.opened.store.contents) (about_of c.migrate.new.self.store.contents) c.in_default.ensures.about in
    let incarnation = (about_of c.in-Ok.opened.store.contents).incarnation in (
      incarnation,
      ap (λ (r : Record). r.members) (c.in-Ok-new.ensures.recorded ∙ ap (λ o. o.«record») c.migrate.ensures.same) ∙ c.in-Ok.ensures.alone
          ∙ ap (λ (slot : ℕ). let m : Member = record { slot = slot; incarnation = incarnation } in m ∷ []) (sym (c.source-source.ensures ∙ was.2)),
    )

pub returns-in-Ok-new-clause-settled : goal.returns-in-Ok-new-clause-settled
returns-in-Ok-new-clause-settled g c = λ keeps.
    let now = c.in-Ok-new.comeback.management in
    let config = c.in-Ok-new.ensures.config.0 ∙ ap (λ o. o.configs) c.migrate.ensures.same in
    let disk = c.in-Ok-new.ensures.config.1 ∙ ap (λ o. o.config) c.migrate.ensures.same in
    subst (λ (s : State). IsSettledConfig s (g.D.Disk.gives now.disk) (g.D.Disk.may_leave_now now.disk)) (sym config)
    (subst (λ (d : g.row.D.Denot). IsSettledConfig c.in-Ok.opened.configs (g.D.Disk.gives d) (g.D.Disk.may_leave_now d)) (sym disk) (c.in-Ok.ensures.settled keeps))

pub returns-in-Ok-new-clause-others : goal.returns-in-Ok-new-clause-others
returns-in-Ok-new-clause-others g c = λ keeps.
    subst (λ (o : Opened g.row.D.Denot g.D.Disk). AllZip (OnlyReads g.D.Disk.gives g.D.Disk.may_leave_now g.D.Disk.moment g.D.Disk.may_have_left_since) (remove c.args.disks.items o.place) o.others.items) (sym c.migrate.ensures.same) (c.in-Ok.ensures.others keeps)

pub returns-in-Ok-new-clause-any_moment : goal.returns-in-Ok-new-clause-any_moment
returns-in-Ok-new-clause-any_moment g c = λ keeps.
    let disk = c.in-Ok-new.ensures.config.1 ∙ ap (λ o. o.config) c.migrate.ensures.same in
    subst (λ (d : g.row.D.Denot). LeavesOnly g.D.Disk.moment g.D.Disk.may_have_left_since c.args.config d (IsRecordedOver (g.D.Disk.may_leave_now c.args.config) (g.D.Disk.gives c.args.config) (map g.D.Disk.gives c.args.disks.items))) (sym disk)
    (c.in-Ok.ensures.any_moment keeps)

pub returns-in-Ok-new-clause-answered : goal.returns-in-Ok-new-clause-answered
returns-in-Ok-new-clause-answered g c = λ keeps. c.in-Ok.ensures.done keeps

pub returns-in-Ok-new-clause-source_moment : goal.returns-in-Ok-new-clause-source_moment
returns-in-Ok-new-clause-source_moment g c = λ keeps.
    let on = c.in-Ok.ensures.goes_on keeps in
    let meaning = meaning_with (about_of c.in-Ok.opened.store.contents) on.volume in
    let still = still_there g.D.Disk.gives g.D.Disk.may_leave_now g.D.Disk.moment g.D.Disk.may_have_left_since (λ (s : Store g.row.D.Denot g.D.Disk). s.disk) c.args.disks.items c.in-Ok.opened.place on.source.is.bytes
    meaning c.in-Ok.opened.store.disk c.migrate.new.self.store c.in-Ok-new.comeback.world.chain c.in-Ok-new.ensures.one
    on.source.is.there on.source.is.is.means (c.in-Ok.ensures.reads keeps) (c.migrate.ensures.any_moment keeps on.volume on.kept) in
    subst (λ (place : ℕ). IfSome (slice_get c.args.disks.items place) (λ disk. (meaning : Meaning) × Means meaning (g.D.Disk.gives disk)
    × All (λ m. LeavesMeaning g.D.Disk.may_leave_now g.D.Disk.moment g.D.Disk.may_have_left_since meaning disk m.node.store.disk) c.in-Ok-new.comeback.world.chain.members)) (sym (ap (λ o. o.place) c.migrate.ensures.same)) still

pub returns-in-Err-new-clause-memory : goal.returns-in-Err-new-clause-memory
returns-in-Err-new-clause-memory g c = λ keeps memory.
    let on = c.in-Ok.ensures.goes_on keeps in
    record {
      disk = c.in-Ok.opened.config;
      store = c.in-Ok.opened.configs;
      old = on.old;
      recorded = on.recorded;
      place = c.in-Ok.opened.place;
      meaning = meaning_with (about_of c.in-Ok.opened.store.contents) on.volume;
      source = on.source;
      part = c.in-Ok.ensures.records.1;
      next = c.in-Ok.ensures.records.0 ∙ on.next;
      settled = c.in-Ok.ensures.settled keeps;
      any_moment = c.in-Ok.ensures.any_moment keeps;
    }
