use Rattle.std.proofs.Common.{ℕ, List, ap, arith, length, refl, subst, sym, ◌≡◌, ◌∙◌, ◌≤◌}
use Rattle.std.specs.Prelude.{zip}
use Rattle.std.proofs.lemmas.Option.{same_Some}
use Rattle.disk_model.specs.declared.memory.MemDisk.{MemDisk}
use Rattle.local_store.specs.Meaning.{Meaning, Means}
use Rattle.life.specs.Recovered.{GivesOnly, IsNoReturn, RecoversFrom, recorded_as}
use Rattle.life.specs.declared.managed.SlotDisk.{SlotDisk}
use Rattle.disk_model.specs.Memory.{given_of, size_of}
use Rattle.disk_model.specs.declared.part.Part.{Part}
use Rattle.chain.specs.Chain.{bytes_of}
use Rattle.chain_model.specs.Chain.{StandsFor}
use Rattle.life.specs.Headline.{EndsAtReturn}
use Rattle.life.specs.Lived.{AreOfOneVolume}
use Rattle.life.specs.Managed.{Managed}
use Rattle.life.specs.declared.era.Deed.{Deed}
use Rattle.life.specs.declared.era.Era.{Era}
use Rattle.life.specs.declared.refusal.Refusal.{Refusal}
use Rattle.life.proofs.Deeds.{deeds_hold, rests_hold}
use Rattle.life.proofs.Chosen.{source_is}
use Rattle.life.proofs.Ending.{era_ends, has_chain, holds_one, left_as}
use Rattle.life.proofs.Eras.{era_leads}
use Rattle.life.proofs.Impostors.{dated_after, gives_only, impostors_after, owned_means, owned_sizes, source_is_owned, source_so, store_means}
use Rattle.life.proofs.Passing.{goes_plays}
use Rattle.life.proofs.Places.{all_from}
use Rattle.life.proofs.Returning.{passed_on}
use Rattle.life.proofs.Starting.{IsStore, about_of_store, disk_in, failures_in, keeps_volume, leaves_now, left_in, moment_in, pends_in}
use Rattle.life.proofs.Stops.{none_met}
use Rattle.life.proofs.living.live_era.Goals as goal

-- why an era isn't followed by another
abbrev EndsSo : Era → Managed IsStore → Refusal → Type 0
EndsSo = EndsAtReturn (Unit {0}) about_of_store keeps_volume pends_in leaves_now moment_in left_in failures_in disk_in

pub play_all-requires-clause-go : goal.play_all-requires-clause-go
play_all-requires-clause-go c = none_met disk_in c.args.managed c.requires.go c.requires.rests.nobody

pub play_all-requires-clause-nobody : goal.play_all-requires-clause-nobody
play_all-requires-clause-nobody c = c.requires.rests.nobody

pub go_on-requires-clause-chain : goal.go_on-requires-clause-chain
go_on-requires-clause-chain c =
    let (export, s, fresh) = c.requires.fresh in
    let size : export.size ≡ bytes_of c.args.managed.world.chain = ap (λ e. e.size) (sym fresh.has) ∙ c.sound.ensures.joined.size in
    let one = (c.in-Ok.ensures.pass.1 fresh.view s fresh.shows (subst (λ n. StandsFor n fresh.view s) size fresh.stands)).happens in
    let end = c.play_all.new.managed in
    let holds = deeds_hold about_of_store (Unit {0}) keeps_volume pends_in leaves_now moment_in left_in failures_in disk_in c.deref.result.now c.in-Ok.told.items c.args.managed end c.in-Ok.ensures.plays
    (rests_hold about_of_store c.args.managed c.requires.rests c.requires.disks c.requires.dated c.requires.impostors) in
    let part = holds.configured.part in
    let long : 8192 ≤ size_of end.management.disk = omega (arith, c.sound-2.ensures.on_disk, ap (λ (p : Part). p.start) part, ap (λ (p : Part). p.len) part) in
    has_chain end one.w c.args.era.now.cut c.in_ok-disks.disks.slots.items c.in_ok-disks.disks.config one.shows holds c.in_ok-disks.ensures long

pub go_on-requires-clause-only : goal.go_on-requires-clause-only
go_on-requires-clause-only c =
    all_from GivesOnly c.in_ok-disks.disks.slots.items (gives_only c.play_all.new.managed c.args.era.now.cut c.in_ok-disks.disks.slots.items c.in_ok-disks.disks.config c.in_ok-disks.ensures)

pub go_on-requires-clause-only_config : goal.go_on-requires-clause-only_config
go_on-requires-clause-only_config c = c.in_ok-disks.ensures.config_is.only

pub returns-clause-all : goal.returns-clause-all
returns-clause-all c = subst (λ (l : List Deed). length c.in-Ok.told.items ≤ length l) c.deref.ensures.value c.in-Ok.ensures.all

pub returns-clause-impostors : goal.returns-clause-impostors
returns-clause-impostors c =
    let (export, s, fresh) = c.requires.fresh in
    let size : export.size ≡ bytes_of c.args.managed.world.chain = ap (λ e. e.size) (sym fresh.has) ∙ c.sound.ensures.joined.size in
    let stands = subst (λ n. StandsFor n fresh.view s) size fresh.stands in
    let one = (c.in-Ok.ensures.pass.1 fresh.view s fresh.shows stands).happens in
    let plays = goes_plays c.lives_are_of_one_volume.ensures.happenings (bytes_of c.args.managed.world.chain) fresh.view one.w one.events one.goes s stands in
    let end = c.play_all.new.managed in
    let holds = deeds_hold about_of_store (Unit {0}) keeps_volume pends_in leaves_now moment_in left_in failures_in disk_in c.deref.result.now c.in-Ok.told.items c.args.managed end c.in-Ok.ensures.plays
    (rests_hold about_of_store c.args.managed c.requires.rests c.requires.disks c.requires.dated c.requires.impostors) in
    let from = c.in_ok-next.ensures.goes_on in
    let left = left_as end.world.chain c.in_ok-disks.disks.config c.records_are_one.ensures (holds_one end one.w c.args.era.now.cut c.in_ok-disks.disks.slots.items c.in_ok-disks.disks.config one.shows holds c.in_ok-disks.ensures)
    from.recovers.recorded from.recovers.stands in
    impostors_after end c.args.era.now.cut c.in_ok-disks.disks.slots.items c.in_ok-disks.disks.config c.in_ok-disks.ensures one.w one.shows holds c.sound-2.ensures.disks (bytes_of c.args.managed.world.chain) plays.1 plays.4 c.disks_mean_one.ensures
    c.deref-2.result.now c.in_ok-next.next from left.either

pub returns-clause-dated : goal.returns-clause-dated
returns-clause-dated c =
    let (export, s, fresh) = c.requires.fresh in
    let size : export.size ≡ bytes_of c.args.managed.world.chain = ap (λ e. e.size) (sym fresh.has) ∙ c.sound.ensures.joined.size in
    let stands = subst (λ n. StandsFor n fresh.view s) size fresh.stands in
    let one = (c.in-Ok.ensures.pass.1 fresh.view s fresh.shows stands).happens in
    let plays = goes_plays c.lives_are_of_one_volume.ensures.happenings (bytes_of c.args.managed.world.chain) fresh.view one.w one.events one.goes s stands in
    let end = c.play_all.new.managed in
    let holds = deeds_hold about_of_store (Unit {0}) keeps_volume pends_in leaves_now moment_in left_in failures_in disk_in c.deref.result.now c.in-Ok.told.items c.args.managed end c.in-Ok.ensures.plays
    (rests_hold about_of_store c.args.managed c.requires.rests c.requires.disks c.requires.dated c.requires.impostors) in
    let from = c.in_ok-next.ensures.goes_on in
    let left = left_as end.world.chain c.in_ok-disks.disks.config c.records_are_one.ensures (holds_one end one.w c.args.era.now.cut c.in_ok-disks.disks.slots.items c.in_ok-disks.disks.config one.shows holds c.in_ok-disks.ensures)
    from.recovers.recorded from.recovers.stands in
    dated_after end c.args.era.now.cut c.in_ok-disks.disks.slots.items c.in_ok-disks.disks.config c.in_ok-disks.ensures one.w one.shows holds c.sound-2.ensures.disks (bytes_of c.args.managed.world.chain) plays.1 plays.4 c.disks_mean_one.ensures
    c.deref-2.result.now c.in_ok-next.next from left.either

pub returns-clause-lived : goal.returns-clause-lived
returns-clause-lived c = λ export s fresh.
    let size : export.size ≡ bytes_of c.args.managed.world.chain = ap (λ e. e.size) (sym fresh.has) ∙ c.sound.ensures.joined.size in
    let stands = subst (λ n. StandsFor n fresh.view s) size fresh.stands in
    let one = (c.in-Ok.ensures.pass.1 fresh.view s fresh.shows stands).happens in
    let plays = goes_plays c.lives_are_of_one_volume.ensures.happenings (bytes_of c.args.managed.world.chain) fresh.view one.w one.events one.goes s stands in
    let end = c.play_all.new.managed in
    let disks = c.in_ok-disks.disks.slots.items in
    let config = c.in_ok-disks.disks.config in
    let holds = deeds_hold about_of_store (Unit {0}) keeps_volume pends_in leaves_now moment_in left_in failures_in disk_in c.deref.result.now c.in-Ok.told.items c.args.managed end c.in-Ok.ensures.plays
    (rests_hold about_of_store c.args.managed c.requires.rests c.requires.disks c.requires.dated c.requires.impostors) in
    let from : RecoversFrom about_of_store keeps_volume leaves_now c.args.era.now.returned.items disks config c.in_ok-next.next =
    subst (λ (l : List ℕ). RecoversFrom about_of_store keeps_volume leaves_now l disks config c.in_ok-next.next) c.deref-2.ensures.value c.in_ok-next.ensures.goes_on in
    let left = left_as end.world.chain config c.records_are_one.ensures (holds_one end one.w c.args.era.now.cut disks config one.shows holds c.in_ok-disks.ensures) from.recovers.recorded from.recovers.stands in
    let src = source_is c.args.era.now.returned.items disks from.recovers.recorded from.place from.chosen in
    let o = source_is_owned end c.args.era.now.cut disks config c.in_ok-disks.ensures holds c.args.era.now.returned.items from.recovers.recorded from.place left.either src in
    let same : src.disk ≡ from.source = same_Some src.disk from.source (sym src.there ∙ from.there) in
    let (own, sizes, slot, incarnation) = owned_means end c.args.era.now.cut disks config c.in_ok-disks.ensures one.w one.shows holds from.place src.disk o in
    let meant : from.recovers.meaning ≡ own.meaning =
    c.disks_mean_one.ensures from.recovers.meaning own.meaning (given_of from.source.disk) from.recovers.means (subst (λ (d : SlotDisk MemDisk). Means own.meaning (given_of d.disk)) same own.means) in
    era_leads (Unit {0}) about_of_store keeps_volume pends_in leaves_now moment_in left_in failures_in disk_in
    c.lives_are_of_one_volume.ensures.happenings c.refusals_have_pleas.ensures.refusals c.refusals_have_pleas.ensures.stops c.chains_begin_again.ensures.restarts c.chains_begin_again.ensures.joiner store_means c.each_disk_has_what_is_owed.ensures.owed
    c.sessions_are_lawful.ensures.first c.sessions_are_lawful.ensures.lawful c.disks_mean_one.ensures
    c.args.era.now c.in-Ok.told.items c.in-Ok.ensures.pass.0 c.args.managed end c.in_ok-next.next c.sound.ensures.joined c.sound-2.ensures.joined c.sound-2.ensures.sessions c.sound-2.ensures.disks holds.configured holds.in_step
    (rw (← c.deref.ensures.value) c.in-Ok.ensures.plays)
    (subst (λ (l : List Deed). AreOfOneVolume about_of_store keeps_volume leaves_now (zip l c.in-Ok.told.items) c.in-Ok.ensures.pass.0 c.args.managed.world end.world) c.deref.ensures.value c.in-Ok.ensures.pass.1)
    (record {
      disks = disks;
      config = config;
      cut = c.in_ok-disks.ensures;
      from = from;
      recorded = left;
      sizes = ap (λ (x : Meaning). x.geometry) meant ∙ sizes
          ∙ owned_sizes end c.args.era.now.cut disks config c.in_ok-disks.ensures one.w one.shows holds c.sound-2.ensures.disks (bytes_of c.args.managed.world.chain) plays.1 plays.4 from.place src.disk o from.recovers.recorded left.either src.seat (recorded_as src.is.meaning) src.recorded
          (ap (λ (x : Meaning). x.incarnation) (c.disks_mean_one.ensures src.is.meaning own.meaning (given_of src.disk.disk) src.is.means own.means) ∙ incarnation);
      alone = c.in_ok-next.ensures.alone;
    })
    (source_so end c.args.era.now.cut disks config c.in_ok-disks.ensures from.place src.disk from.source same o) c.in-Ok.ensures.outside holds.none
    export s fresh

pub returns-in_err-next-clause-refused : goal.returns-in_err-next-clause-refused
returns-in_err-next-clause-refused c =
    let (export, s, fresh) = c.requires.fresh in
    let size : export.size ≡ bytes_of c.args.managed.world.chain = ap (λ e. e.size) (sym fresh.has) ∙ c.sound.ensures.joined.size in
    let one = (c.in-Ok.ensures.pass.1 fresh.view s fresh.shows (subst (λ n. StandsFor n fresh.view s) size fresh.stands)).happens in
    let end = c.play_all.new.managed in
    let holds = deeds_hold about_of_store (Unit {0}) keeps_volume pends_in leaves_now moment_in left_in failures_in disk_in c.deref.result.now c.in-Ok.told.items c.args.managed end c.in-Ok.ensures.plays
    (rests_hold about_of_store c.args.managed c.requires.rests c.requires.disks c.requires.dated c.requires.impostors) in
    passed_on c.from_residual-in_err-next.result c.in_err-next.field-0.0 (EndsSo c.args.era.now c.args.managed) c.from_residual-in_err-next.ensures.1
    (era_ends end one.w c.args.era.now.cut c.in_ok-disks.disks.slots.items c.in_ok-disks.disks.config one.shows holds c.in_ok-disks.ensures c.args.era.now c.args.managed c.in-Ok.told.items refl
    (rw (← c.deref.ensures.value) c.in-Ok.ensures.plays) c.disks_mean_one.ensures c.records_are_one.ensures c.in_err-next.field-0.0
    (subst (λ (l : List ℕ). IsNoReturn l c.in_ok-disks.disks.slots.items c.in_ok-disks.disks.config c.in_err-next.field-0.0) c.deref-2.ensures.value c.in_err-next.ensures.refused))
