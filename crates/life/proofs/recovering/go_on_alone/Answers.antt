use Rattle.std.proofs.Common.{◌≡◌, ◌+◌, false, ℕ, [], Err, ap, inl, inr, refl, subst, sym, ◌∙◌, arith}
use Rattle.std.specs.Prelude.{All, ◌⊎◌}
use Rattle.std.proofs.lemmas.List.Elements.{All-cons, All-nil}
use Rattle.chain.specs.Opening.{recorded_in}
use Rattle.chain_model.specs.View.{is_in}
use Rattle.configurations.specs.Record.{Record}
use Rattle.configurations.specs.Refusal.{IsCaused as IsConfigCaused}
use Rattle.configurations.specs.Store.{IsSettledConfig, State, numbered_holds}
use Rattle.configurations.specs.declared.member.Member.{Member}
use Rattle.configurations.specs.declared.refusal.Refusal as config
use Rattle.configurations.specs.declared.refusal.Refusal.TheVariants as configs
use Rattle.disk_model.specs.Memory.{failures_of, given_of, has_stopped, may_be_left}
use Rattle.disk_model.specs.Part.{inside}
use Rattle.disk_model.specs.declared.memory.MemDisk.{MemDisk}
use Rattle.home_blocks.specs.Home.{HoldsSuperblock, settled_holds}
use Rattle.home_blocks.specs.Superblock.{Superblock}
use Rattle.local_store.specs.About.{About}
use Rattle.local_store.specs.Meaning.{Meaning, Means}
use Rattle.local_store.specs.Refusal.{IsCaused}
use Rattle.local_store.specs.Store.{meaning_in}
use Rattle.life.specs.Begun.{AreOfMember, BeginsWith}
use Rattle.life.specs.Managed.{at_rest, config_part}
use Rattle.life.specs.Recovered.{alone_behind, recorded_as}
use Rattle.life.specs.Refusal.{IsStopOf}
use Rattle.life.specs.declared.refusal.Refusal.TheVariants.{Config, Store}
use Rattle.life.proofs.Recovery.{device_reopens, either_records, fails_no_more, found_as, is_last, left_alone, of_member, only_read, opening_calm, opening_returns, read_records, read_still, recording_returns, same_config, same_member, same_size, store_recovers, told_alone}
use Rattle.life.proofs.Returning.{migrated_as, reopened, reopening_of_memory}
use Rattle.life.proofs.Starting.{IsStore, about_of_store, keeps_volume, leaves_now}
use Rattle.life.proofs.recovering.go_on_alone.Goals as goal

pub returns-in-Err-clause-returning : goal.returns-in-Err-clause-returning
returns-in-Err-clause-returning c = opening_returns c.args.disk c.args.config c.in-Err.refusal c.in-Err.ensures.told (λ is. c.in-Err.ensures.none (ap (λ (e : config.Refusal). Err e) is))

pub returns-in-Err-clause-calm : goal.returns-in-Err-clause-calm
returns-in-Err-clause-calm c =
    λ may calm calm_config.
    opening_calm c.args.disk c.args.config (failures_of c.open_config.new.config) c.in-Err.refusal c.in-Err.ensures.told (λ is. c.in-Err.ensures.none (ap (λ (e : config.Refusal). Err e) is))
    c.in-Err.ensures.cause.failed (fails_no_more c.args.config c.open_config.new.config c.open_config.ensures.most calm_config) may

pub returns-in-Err-clause-again : goal.returns-in-Err-clause-again
returns-in-Err-clause-again c = read_still c.args.disk c.args.disk (λ x left. left)

pub returns-in-Err-clause-records : goal.returns-in-Err-clause-records
returns-in-Err-clause-records c = read_records c.args.disk c.args.config c.open_config.new.config c.open_config.ensures.reads.leaves

pub returns-in-Err-open-clause-refused : goal.returns-in-Err-open-clause-refused
returns-in-Err-open-clause-refused c = store_recovers c.in-Err-open.refusal c.in-Err-open.ensures.told

pub returns-in-Err-open-clause-returning : goal.returns-in-Err-open-clause-returning
returns-in-Err-open-clause-returning c =
    λ may. reopened (given_of c.args.disk) c.in-Err-open.refusal c.in-Err-open.ensures.told (c.in-Err-open.ensures.not_a_volume tt) (c.in-Err-open.ensures.other_version tt) (c.in-Err-open.ensures.unfinished tt)
    (c.meanings_are_opened.ensures may.member.meaning (given_of c.args.disk) may.member.means may.member.long)

pub returns-in-Err-open-clause-calm : goal.returns-in-Err-open-clause-calm
returns-in-Err-open-clause-calm c =
    λ may calm calm_config. inl (reopening_of_memory c.in-Err-open.refusal (reopened (given_of c.args.disk) c.in-Err-open.refusal c.in-Err-open.ensures.told (c.in-Err-open.ensures.not_a_volume tt) (c.in-Err-open.ensures.other_version tt) (c.in-Err-open.ensures.unfinished tt)
    (c.meanings_are_opened.ensures may.member.meaning (given_of c.args.disk) may.member.means may.member.long)) (c.in-Err-open.ensures.calm calm))

pub returns-in-Err-open-clause-order : goal.returns-in-Err-open-clause-order
returns-in-Err-open-clause-order c = inl (only_read c.args.disk c.in-Err-open.disk c.in-Err-open.disk refl (c.in-Err-open.ensures.back tt))

pub returns-in-Err-open-clause-back : goal.returns-in-Err-open-clause-back
returns-in-Err-open-clause-back c = λ two. only_read c.args.disk c.in-Err-open.disk c.in-Err-open.disk refl (c.in-Err-open.ensures.back tt)

pub returns-in-Err-open-clause-again : goal.returns-in-Err-open-clause-again
returns-in-Err-open-clause-again c = let back = only_read c.args.disk c.in-Err-open.disk c.in-Err-open.disk refl (c.in-Err-open.ensures.back tt) in read_still c.args.disk c.in-Err-open.disk back.leaves

pub returns-in-Err-open-clause-records : goal.returns-in-Err-open-clause-records
returns-in-Err-open-clause-records c = read_records c.args.disk c.args.config c.open_config.new.config c.open_config.ensures.reads.leaves

pub returns-then-incarnation-eq0-clause-returning : goal.returns-then-incarnation-eq0-clause-returning
returns-then-incarnation-eq0-clause-returning c =
    λ may.
    let was = c.in-Ok-open.ensures.stored tt in
    let same = ap (λ (x : Meaning). x.incarnation) (c.disks_mean_one.ensures may.member.meaning (meaning_in c.in-Ok-open.store.contents was.0) (given_of c.args.disk) may.member.means was.2) in
    omega (arith, may.member.given, same, c.incarnation.ensures.incarnation, c.if-incarnation-eq0.true)

pub returns-then-incarnation-eq0-clause-calm : goal.returns-then-incarnation-eq0-clause-calm
returns-then-incarnation-eq0-clause-calm c =
    λ may calm calm_config.
    let was = c.in-Ok-open.ensures.stored tt in
    let same = ap (λ (x : Meaning). x.incarnation) (c.disks_mean_one.ensures may.member.meaning (meaning_in c.in-Ok-open.store.contents was.0) (given_of c.args.disk) may.member.means was.2) in
    absurd (omega (arith, may.member.given, same, c.incarnation.ensures.incarnation, c.if-incarnation-eq0.true))

pub returns-then-incarnation-eq0-clause-order : goal.returns-then-incarnation-eq0-clause-order
returns-then-incarnation-eq0-clause-order c = inl (only_read c.args.disk c.in-Ok-open.store.disk c.into_disk.result c.into_disk.ensures (c.in-Ok-open.ensures.reads tt))

pub returns-then-incarnation-eq0-clause-back : goal.returns-then-incarnation-eq0-clause-back
returns-then-incarnation-eq0-clause-back c = λ two. only_read c.args.disk c.in-Ok-open.store.disk c.into_disk.result c.into_disk.ensures (c.in-Ok-open.ensures.reads tt)

pub returns-then-incarnation-eq0-clause-again : goal.returns-then-incarnation-eq0-clause-again
returns-then-incarnation-eq0-clause-again c = let back = only_read c.args.disk c.in-Ok-open.store.disk c.into_disk.result c.into_disk.ensures (c.in-Ok-open.ensures.reads tt) in read_still c.args.disk c.into_disk.result back.leaves

pub returns-then-incarnation-eq0-clause-records : goal.returns-then-incarnation-eq0-clause-records
returns-then-incarnation-eq0-clause-records c = read_records c.args.disk c.args.config c.open_config.new.config c.open_config.ensures.reads.leaves

pub returns-then-incarnation-eq0-clause-size : goal.returns-then-incarnation-eq0-clause-size
returns-then-incarnation-eq0-clause-size c = same_size c.args.disk c.into_disk.result (only_read c.args.disk c.in-Ok-open.store.disk c.into_disk.result c.into_disk.ensures (c.in-Ok-open.ensures.reads tt))

pub returns-then-not-has_member-clause-strangers : goal.returns-then-not-has_member-clause-strangers
returns-then-not-has_member-clause-strangers c =
    λ is.
    let was = c.in-Ok-open.ensures.stored tt in
    let meaning = meaning_in c.in-Ok-open.store.contents was.0 in (
      record {
        recorded = c.in-Ok.found.current;
        meaning = meaning;
        stands = c.in-Ok.ensures.stands;
        means = was.2;
        out = ap (λ (r : Record). is_in r meaning.slot meaning.incarnation) (sym c.current.ensures) ∙ sym c.has_member.ensures ∙ c.if-not-has_member.true;
      },
      (only_read c.args.disk c.in-Ok-open.store.disk c.into_disk-then-not-has_member.result c.into_disk-then-not-has_member.ensures (c.in-Ok-open.ensures.reads tt), c.open_config.ensures.reads),
    )

pub returns-then-not-has_member-clause-order : goal.returns-then-not-has_member-clause-order
returns-then-not-has_member-clause-order c = inl (only_read c.args.disk c.in-Ok-open.store.disk c.into_disk-then-not-has_member.result c.into_disk-then-not-has_member.ensures (c.in-Ok-open.ensures.reads tt))

pub returns-then-not-has_member-clause-back : goal.returns-then-not-has_member-clause-back
returns-then-not-has_member-clause-back c = λ two. only_read c.args.disk c.in-Ok-open.store.disk c.into_disk-then-not-has_member.result c.into_disk-then-not-has_member.ensures (c.in-Ok-open.ensures.reads tt)

pub returns-then-not-has_member-clause-again : goal.returns-then-not-has_member-clause-again
returns-then-not-has_member-clause-again c = let back = only_read c.args.disk c.in-Ok-open.store.disk c.into_disk-then-not-has_member.result c.into_disk-then-not-has_member.ensures (c.in-Ok-open.ensures.reads tt) in read_still c.args.disk c.into_disk-then-not-has_member.result back.leaves

pub returns-then-not-has_member-clause-records : goal.returns-then-not-has_member-clause-records
returns-then-not-has_member-clause-records c = read_records c.args.disk c.args.config c.open_config.new.config c.open_config.ensures.reads.leaves

pub returns-then-not-has_member-clause-size : goal.returns-then-not-has_member-clause-size
returns-then-not-has_member-clause-size c = same_size c.args.disk c.into_disk-then-not-has_member.result (only_read c.args.disk c.in-Ok-open.store.disk c.into_disk-then-not-has_member.result c.into_disk-then-not-has_member.ensures (c.in-Ok-open.ensures.reads tt))

pub returns-in-Err-record_alone-clause-last : goal.returns-in-Err-record_alone-clause-last
returns-in-Err-record_alone-clause-last c =
    λ is.
    is_last c.args.config c.in-Ok.found (given_of c.open_config.new.config) (may_be_left c.open_config.new.config) c.open_config.ensures.reads.same c.in-Ok.ensures.part c.in-Ok.ensures.settled
    (c.in-Err-record_alone.ensures.last (ap (λ (e : config.Refusal). Err e) (same_config c.in-Err-record_alone.refusal configs.NotNext is)))

pub returns-in-Err-record_alone-clause-returning : goal.returns-in-Err-record_alone-clause-returning
returns-in-Err-record_alone-clause-returning c = λ may. recording_returns c.in-Err-record_alone.refusal c.in-Err-record_alone.ensures.told c.in-Err-record_alone.ensures.found

pub returns-in-Err-record_alone-clause-config_cause : goal.returns-in-Err-record_alone-clause-config_cause
returns-in-Err-record_alone-clause-config_cause c =
    elim c.in-Err-record_alone.ensures.cause [
      | inl caused ↦ inl (subst (λ (n : ℕ). IsConfigCaused n (failures_of c.record_alone.new.config) c.in-Err-record_alone.refusal) c.in-Ok.ensures.cause.done caused)
      | inr (same, stopped) ↦ inr (ap Config same, stopped)
    ]

pub returns-in-Err-record_alone-clause-calm : goal.returns-in-Err-record_alone-clause-calm
returns-in-Err-record_alone-clause-calm c = λ may calm calm_config. c.in-Err-record_alone.ensures.calm (omega (arith, c.in-Ok.ensures.cause.done, c.open_config.ensures.most, calm_config))

pub returns-in-Err-record_alone-clause-order : goal.returns-in-Err-record_alone-clause-order
returns-in-Err-record_alone-clause-order c = inl (only_read c.args.disk c.in-Ok-open.store.disk c.into_disk-in-Err-record_alone.result c.into_disk-in-Err-record_alone.ensures (c.in-Ok-open.ensures.reads tt))

pub returns-in-Err-record_alone-clause-back : goal.returns-in-Err-record_alone-clause-back
returns-in-Err-record_alone-clause-back c = λ two. only_read c.args.disk c.in-Ok-open.store.disk c.into_disk-in-Err-record_alone.result c.into_disk-in-Err-record_alone.ensures (c.in-Ok-open.ensures.reads tt)

pub returns-in-Err-record_alone-clause-again : goal.returns-in-Err-record_alone-clause-again
returns-in-Err-record_alone-clause-again c = let back = only_read c.args.disk c.in-Ok-open.store.disk c.into_disk-in-Err-record_alone.result c.into_disk-in-Err-record_alone.ensures (c.in-Ok-open.ensures.reads tt) in read_still c.args.disk c.into_disk-in-Err-record_alone.result back.leaves

pub returns-in-Err-record_alone-clause-records : goal.returns-in-Err-record_alone-clause-records
returns-in-Err-record_alone-clause-records c =
    let was = c.in-Ok-open.ensures.stored tt in
    let meaning = meaning_in c.in-Ok-open.store.contents was.0 in
    either_records c.args.disk c.args.config c.record_alone.new.config c.in-Ok.found meaning c.records_are_one.ensures c.numbers_are_one.ensures
    (found_as c.args.config c.in-Ok.found (given_of c.open_config.new.config) (may_be_left c.open_config.new.config) c.open_config.ensures.reads.same c.in-Ok.ensures.part c.in-Ok.ensures.settled) was.2
    (ap (λ (r : Record). is_in r meaning.slot meaning.incarnation) (sym c.current.ensures) ∙ sym c.has_member.ensures ∙ c.if-not-has_member.false) c.record_alone.ensures.still

pub returns-in-Err-record_alone-clause-size : goal.returns-in-Err-record_alone-clause-size
returns-in-Err-record_alone-clause-size c = same_size c.args.disk c.into_disk-in-Err-record_alone.result (only_read c.args.disk c.in-Ok-open.store.disk c.into_disk-in-Err-record_alone.result c.into_disk-in-Err-record_alone.ensures (c.in-Ok-open.ensures.reads tt))

pub ready-requires-clause-keeps : goal.ready-requires-clause-keeps
ready-requires-clause-keeps c = let was = c.in-Ok-open.ensures.stored tt in (was.0, was.1)

pub returns-in-Err-ready-clause-returning : goal.returns-in-Err-ready-clause-returning
returns-in-Err-ready-clause-returning c = λ may. device_reopens c.in-Err-ready.refusal c.in-Err-ready.ensures.device

pub returns-in-Err-ready-clause-cause : goal.returns-in-Err-ready-clause-cause
returns-in-Err-ready-clause-cause c = subst (λ (n : ℕ). IsCaused n (failures_of c.in-Err-ready.disk) c.in-Err-ready.refusal ⊎ IsStopOf c.in-Err-ready.disk (Store c.in-Err-ready.refusal)) c.in-Ok-open.ensures.done c.in-Err-ready.ensures.cause

pub returns-in-Err-ready-clause-calm : goal.returns-in-Err-ready-clause-calm
returns-in-Err-ready-clause-calm c =
    λ may calm calm_config.
    inl (reopening_of_memory c.in-Err-ready.refusal (device_reopens c.in-Err-ready.refusal c.in-Err-ready.ensures.device) (c.in-Err-ready.ensures.calm (omega (arith, calm, c.in-Ok-open.ensures.done, c.in-Ok-open.ensures.most))))

pub returns-in-Err-ready-clause-order : goal.returns-in-Err-ready-clause-order
returns-in-Err-ready-clause-order c =
    let was = c.in-Ok-open.ensures.stored tt in
    let meaning = meaning_in c.in-Ok-open.store.contents was.0 in
    inr (record {
      recorded = c.in-Ok.found.current;
      meaning = meaning;
      stands = c.in-Ok.ensures.stands;
      means = was.2;
      has = ap (λ (r : Record). is_in r meaning.slot meaning.incarnation) (sym c.current.ensures) ∙ sym c.has_member.ensures ∙ c.if-not-has_member.false;
      each = λ x left. numbered_holds (left_alone c.in-Ok.found c.in-Ok-record_alone.found c.record_alone.new.config (alone_behind c.in-Ok.found.current (recorded_as meaning)) c.in-Ok-record_alone.ensures.recorded c.in-Ok.ensures.part c.in-Ok-record_alone.ensures.settled x left);
    })

pub returns-in-Err-ready-clause-back : goal.returns-in-Err-ready-clause-back
returns-in-Err-ready-clause-back c =
    λ (sb, holds, two).
    let was = c.in-Ok-open.ensures.stored tt in
    let read = c.in-Ok-open.ensures.reads tt in
    let own = c.in-Ok-open.store.contents.home.superblock in
    let here : HoldsSuperblock own (given_of c.args.disk) = subst (HoldsSuperblock own) read.same (settled_holds was.1.superblock) in
    let same : sb ≡ own = c.superblocks_are_one.ensures sb own (given_of c.args.disk) holds here in
    only_read c.args.disk c.in-Ok-open.store.disk c.in-Err-ready.disk (c.in-Err-ready.ensures.untouched (sym (ap (λ (s : Superblock). s.version) same) ∙ two)) read

pub returns-in-Err-ready-clause-again : goal.returns-in-Err-ready-clause-again
returns-in-Err-ready-clause-again c =
    λ given means only x left.
    let was = c.in-Ok-open.ensures.stored tt in
    let meaning = meaning_in c.in-Ok-open.store.contents was.0 in
    let same : meaning ≡ given = c.disks_mean_one.ensures meaning given (given_of c.args.disk) was.2 means in
    subst (λ (m : Meaning). Means m x) same (c.in-Err-ready.ensures.means was.0 was.1 x left)

pub returns-in-Err-ready-clause-records : goal.returns-in-Err-ready-clause-records
returns-in-Err-ready-clause-records c =
    let was = c.in-Ok-open.ensures.stored tt in
    let meaning = meaning_in c.in-Ok-open.store.contents was.0 in
    either_records c.args.disk c.args.config c.record_alone.new.config c.in-Ok.found meaning c.records_are_one.ensures c.numbers_are_one.ensures
    (found_as c.args.config c.in-Ok.found (given_of c.open_config.new.config) (may_be_left c.open_config.new.config) c.open_config.ensures.reads.same c.in-Ok.ensures.part c.in-Ok.ensures.settled) was.2
    (ap (λ (r : Record). is_in r meaning.slot meaning.incarnation) (sym c.current.ensures) ∙ sym c.has_member.ensures ∙ c.if-not-has_member.false) (λ x left. inr (left_alone c.in-Ok.found c.in-Ok-record_alone.found c.record_alone.new.config (alone_behind c.in-Ok.found.current (recorded_as meaning)) c.in-Ok-record_alone.ensures.recorded c.in-Ok.ensures.part c.in-Ok-record_alone.ensures.settled x left))

pub returns-in-Err-ready-clause-size : goal.returns-in-Err-ready-clause-size
returns-in-Err-ready-clause-size c = let read = c.in-Ok-open.ensures.reads tt in c.in-Err-ready.ensures.size ∙ same_size c.args.disk c.in-Ok-open.store.disk (only_read c.args.disk c.in-Ok-open.store.disk c.in-Ok-open.store.disk refl read)

pub alone-requires-clause-given : goal.alone-requires-clause-given
alone-requires-clause-given c =
    let same = ap (λ (m : Member). m.incarnation) (same_member c.in-Ok-ready.store c.in-Ok-open.store c.in-Ok-ready.ensures.about) in
    omega (arith, same, c.incarnation.ensures.incarnation, c.if-incarnation-eq0.false)

pub alone-requires-clause-runs : goal.alone-requires-clause-runs
alone-requires-clause-runs c =
    elim c.in-Ok-ready.ensures.about [
      | inl same ↦ ap (λ (a : About). a.broken) same ∙ c.in-Ok-open.ensures.runs
      | inr moved ↦ ap (λ (a : About). a.broken) moved ∙ c.in-Ok-open.ensures.runs
    ]

pub alone-requires-clause-keeps : goal.alone-requires-clause-keeps
alone-requires-clause-keeps c = λ premise. let was = c.in-Ok-open.ensures.stored tt in (was.0, c.in-Ok-ready.ensures.kept was.0 was.1)

pub returns-in-Ok-alone-clause-go : goal.returns-in-Ok-alone-clause-go
returns-in-Ok-alone-clause-go c =
    let runs : IsStore → Type 0 = λ s. has_stopped s.disk ≡ false in
    record {
      members = subst (All runs) (sym c.in-Ok-alone.ensures.store) (All-cons runs c.in-Ok-ready.store [] c.in-Ok-ready.ensures.go (All-nil runs));
      config = ap has_stopped c.new.ensures.disk ∙ c.in-Ok-record_alone.ensures.go;
    }

pub returns-in-Ok-alone-clause-goes_on : goal.returns-in-Ok-alone-clause-goes_on
returns-in-Ok-alone-clause-goes_on c =
    let was = c.in-Ok-open.ensures.stored tt in
    let meaning = meaning_in c.in-Ok-open.store.contents was.0 in
    let now = about_of_store c.in-Ok-ready.store in
    let before = about_of_store c.in-Ok-open.store in
    let next = alone_behind c.in-Ok.found.current (recorded_in about_of_store c.in-Ok-open.store) in
    let current : c.in-Ok-record_alone.found.current ≡ next = ap (λ (s : State). s.current) c.in-Ok-record_alone.ensures.recorded in
    let more : c.epoch.result ≡ c.in-Ok.found.current.epoch + 1 = c.epoch.ensures ∙ ap (λ (r : Record). r.epoch) (c.current-2.ensures ∙ current) in
    let chain : c.in-Ok-alone.world.chain.recorded ≡ next =
    told_alone c.in-Ok.found.current c.in-Ok-ready.store c.in-Ok-open.store c.epoch.result c.in-Ok-alone.world.chain.recorded c.in-Ok-alone.ensures.recorded more c.in-Ok-ready.ensures.about in
    let later : c.in-Ok-alone.world.chain.recorded.epoch ≡ c.in-Ok.found.current.epoch + 1 = ap (λ (r : Record). r.epoch) chain in
    record {
      recorded = c.in-Ok.found.current;
      meaning = meaning;
      stands = c.in-Ok.ensures.stands;
      means = was.2;
      has = ap (λ (r : Record). is_in r meaning.slot meaning.incarnation) (sym c.current.ensures) ∙ sym c.has_member.ensures ∙ c.if-not-has_member.false;
      later = inl later;
      alone = ap (λ (r : Record). r.members) chain;
      member = subst (AreOfMember about_of_store meaning) (sym c.in-Ok-alone.ensures.store) (of_member c.in-Ok-ready.store meaning (same_member c.in-Ok-ready.store c.in-Ok-open.store c.in-Ok-ready.ensures.about));
      begins = migrated_as now before c.in-Ok-ready.ensures.about (λ slot incarnation geometry front. BeginsWith about_of_store keeps_volume leaves_now geometry front was.0 c.in-Ok-alone.world)
          (c.in-Ok-alone.ensures.begins tt was.0 (c.in-Ok-ready.ensures.kept was.0 was.1));
      rests = record {
        manager = c.new.ensures.manager ∙ ap at_rest c.in-Ok-alone.ensures.chain;
        idle = c.in-Ok-alone.ensures.idle;
        nobody = refl;
        alone = c.in-Ok-alone.ensures.nobody;
        part = ap (λ (s : State). s.pair.part) (c.new.ensures.config ∙ c.in-Ok-record_alone.ensures.recorded) ∙ c.in-Ok.ensures.part;
        current = ap (λ (s : State). s.current) c.new.ensures.config ∙ current ∙ sym chain;
        settled = subst (λ (d : MemDisk). IsSettledConfig c.new.result.config (given_of d) (may_be_left d)) (sym c.new.ensures.disk)
            (subst (λ (s : State). IsSettledConfig s (given_of c.record_alone.new.config) (may_be_left c.record_alone.new.config)) (sym c.new.ensures.config) c.in-Ok-record_alone.ensures.settled);
      };
    }

pub returns-in-Ok-alone-clause-next : goal.returns-in-Ok-alone-clause-next
returns-in-Ok-alone-clause-next c = λ r stands.
    let next = alone_behind c.in-Ok.found.current (recorded_in about_of_store c.in-Ok-open.store) in
    let current : c.in-Ok-record_alone.found.current ≡ next = ap (λ (s : State). s.current) c.in-Ok-record_alone.ensures.recorded in
    let more : c.epoch.result ≡ c.in-Ok.found.current.epoch + 1 = c.epoch.ensures ∙ ap (λ (r : Record). r.epoch) (c.current-2.ensures ∙ current) in
    let chain : c.in-Ok-alone.world.chain.recorded ≡ next =
    told_alone c.in-Ok.found.current c.in-Ok-ready.store c.in-Ok-open.store c.epoch.result c.in-Ok-alone.world.chain.recorded c.in-Ok-alone.ensures.recorded more c.in-Ok-ready.ensures.about in
    let same : c.in-Ok.found.current ≡ r = c.records_are_one.ensures c.in-Ok.found.current r (inside config_part (given_of c.args.config)) c.in-Ok.ensures.stands stands in
    ap (λ (x : Record). x.epoch) chain ∙ ap (λ (x : Record). x.epoch + 1) same

pub returns-in-Err-alone-clause-records : goal.returns-in-Err-alone-clause-records
returns-in-Err-alone-clause-records c =
    let was = c.in-Ok-open.ensures.stored tt in
    let meaning = meaning_in c.in-Ok-open.store.contents was.0 in
    either_records c.args.disk c.args.config c.record_alone.new.config c.in-Ok.found meaning c.records_are_one.ensures c.numbers_are_one.ensures
    (found_as c.args.config c.in-Ok.found (given_of c.open_config.new.config) (may_be_left c.open_config.new.config) c.open_config.ensures.reads.same c.in-Ok.ensures.part c.in-Ok.ensures.settled) was.2
    (ap (λ (r : Record). is_in r meaning.slot meaning.incarnation) (sym c.current.ensures) ∙ sym c.has_member.ensures ∙ c.if-not-has_member.false) (λ x left. inr (left_alone c.in-Ok.found c.in-Ok-record_alone.found c.record_alone.new.config (alone_behind c.in-Ok.found.current (recorded_as meaning)) c.in-Ok-record_alone.ensures.recorded c.in-Ok.ensures.part c.in-Ok-record_alone.ensures.settled x left))
