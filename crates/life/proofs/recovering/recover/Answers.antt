use Rattle.std.proofs.Common.{◌≡◌, ℕ, arith, ap, inr, subst, sym, ◌∙◌}
use Rattle.std.specs.Prelude.{◌⊎◌, ◌<◌, Err, IfErr, List, OnOk, length}
use Rattle.configurations.specs.Record.{Record}
use Rattle.disk_model.specs.Memory.{failures_of}
use Rattle.disk_model.specs.Part.{inside}
use Rattle.configurations.specs.Store.{HoldsNone}
use Rattle.life.specs.Managed.{IsLast, StandsOn, config_part}
use Rattle.life.specs.Recovered.{IsChosen, StandsThere}
use Rattle.life.specs.Refusal.{IsOfChoosing}
use Rattle.life.specs.declared.refusal.Refusal.{Refusal}
use Rattle.life.specs.declared.refusal.Refusal.TheVariants.{NotInChain}
use Rattle.life.proofs.Chosen.{chain_same, chosen_returns}
use Rattle.life.proofs.Several.{IsTaken, broken_off, caused_back, choosing_returns, config_calm, err_both, err_is, err_more, no_stranger_there, ok_both, ok_is, ok_more, place_within, recovers_from, source_calm, taken}
use Rattle.life.proofs.recovering.recover.Goals as goal
use Rattle.life.proofs.recovering.recover.Goals.{After-go_on_from}

pub returns-in-Err-clause-returning : goal.returns-in-Err-clause-returning
returns-in-Err-clause-returning c =
    choosing_returns c.args.config c.in-Err.refusal (err_is IsOfChoosing c.choose_among-choice.result.0 c.in-Err.refusal c.in-Err.is c.choose_among-choice.ensures.told)
    (λ is. c.choose_among-choice.ensures.missing (c.in-Err.is ∙ ap (λ (e : Refusal). Err e) is))

pub remove-source-requires : goal.remove-source-requires
remove-source-requires c =
    let ch = c.choose_among-choice in
    let (r, there, chosen) = ok_is (λ place. (r : Record) × StandsThere c.args.config r × IsChosen c.args.returned.now c.args.disks.items r place) ch.result.0 c.in-Ok.place c.in-Ok.is ch.ensures.chosen in
    let within = place_within c.args.returned.now c.args.disks.items ch.result.1.items r c.in-Ok.place ch.ensures.back chosen in
    omega (arith, within, ch.result.1.ok.0)

-- the source that was chosen, and taken out of the disks that were read
found_of : (c : After-go_on_from) → IsTaken c.args.returned.now c.args.disks.items c.args.config c.in-Ok.place c.remove-source.result
found_of c =
    let ch = c.choose_among-choice in
    taken c.args.returned.now c.args.disks.items ch.result.1.items c.args.config ch.result.0 c.in-Ok.place c.remove-source.result c.in-Ok.is ch.ensures.chosen ch.ensures.well ch.ensures.back c.remove-source.ensures.value

-- it is no stranger's disk, so that this refusal doesn't come any more
no_stranger_left : (c : After-go_on_from) → IfErr c.go_on_from.result (λ e. e.refusal ≡ NotInChain → ⊥)
no_stranger_left c =
    let ch = c.choose_among-choice in
    let found = found_of c in
    err_more c.go_on_from.result c.go_on_from.ensures.strangers (λ e strangers. λ is. no_stranger_there c.args.returned.now c.args.disks.items found.recorded c.in-Ok.place c.remove-source.result c.args.config ch.new.config c.disks_mean_one.ensures c.records_are_one.ensures
    found.there found.chosen found.was ch.ensures.reads.same (strangers is))

pub returns-clause-goes_on : goal.returns-clause-goes_on
returns-clause-goes_on c =
    let ch = c.choose_among-choice in
    let go = c.go_on_from in
    let source = c.remove-source.result in
    let found = found_of c in
    ok_both go.result go.ensures.goes_on go.ensures.outside (λ managed goes outside.
    recovers_from c.args.returned.now c.args.disks.items ch.result.1.items c.remove-source.new.self.items found.recorded c.in-Ok.place source c.args.config ch.new.config managed c.records_are_one.ensures found.there found.chosen ch.ensures.back found.was
    ch.ensures.reads.same c.remove-source.ensures.items goes outside)

pub returns-clause-next : goal.returns-clause-next
returns-clause-next c =
    let ch = c.choose_among-choice in
    ok_more c.go_on_from.result c.go_on_from.ensures.next (λ managed next. λ r stands. next r (subst (λ (b : List ℕ). StandsOn b r) (sym ch.ensures.reads.same) stands))

pub returns-clause-some : goal.returns-clause-some
returns-clause-some c = err_more c.go_on_from.result (no_stranger_left c) (λ e none. λ is. absurd (none is))

pub returns-clause-strangers : goal.returns-clause-strangers
returns-clause-strangers c = err_more c.go_on_from.result (no_stranger_left c) (λ e none. λ is. absurd (none is))

pub returns-clause-missing : goal.returns-clause-missing
returns-clause-missing c =
    let same = c.choose_among-choice.ensures.reads.same in
    err_more c.go_on_from.result c.go_on_from.ensures.missing (λ e missing. λ is. subst (λ (b : List ℕ). (length b < 8192) ⊎ HoldsNone (inside config_part b)) same (missing is))

pub returns-clause-last : goal.returns-clause-last
returns-clause-last c = err_more c.go_on_from.result c.go_on_from.ensures.last (λ e last. λ is. subst IsLast c.choose_among-choice.ensures.reads.same (last is))

pub returns-clause-returning : goal.returns-clause-returning
returns-clause-returning c =
    let ch = c.choose_among-choice in
    let source = c.remove-source.result in
    let found = found_of c in
    err_more c.go_on_from.result c.go_on_from.ensures.returning (λ e returning. λ has. returning (chosen_returns c.args.returned.now c.args.disks.items found.recorded c.in-Ok.place ch.new.config found.was.was source found.chosen found.was.there found.was.read.1.same (chain_same c.args.config ch.new.config ch.ensures.reads.same has)))

pub returns-clause-order : goal.returns-clause-order
returns-clause-order c =
    let ch = c.choose_among-choice in
    let go = c.go_on_from in
    let source = c.remove-source.result in
    let found = found_of c in
    err_both go.result go.ensures.records go.ensures.back (λ e records back. inr (
    broken_off c.args.returned.now c.args.disks.items ch.result.1.items c.remove-source.new.self.items found.recorded c.in-Ok.place source c.args.config ch.new.config e.refusal e.disks.items e.config found.there found.chosen ch.ensures.back found.was
    ch.ensures.reads c.remove-source.ensures.items records back))

pub returns-clause-cause : goal.returns-clause-cause
returns-clause-cause c =
    let ch = c.choose_among-choice in
    let go = c.go_on_from in
    let source = c.remove-source.result in
    let found = found_of c in
    let within = place_within c.args.returned.now c.args.disks.items ch.result.1.items found.recorded c.in-Ok.place ch.ensures.back found.chosen in
    err_more go.result go.ensures.back (λ e back. caused_back c.args.disks.items c.remove-source.new.self.items c.in-Ok.place source ch.new.config e.refusal e.disks.items e.config found.was (omega (arith, within, c.remove-source.ensures.len)) back)

pub returns-clause-calm : goal.returns-clause-calm
returns-clause-calm c =
    let ch = c.choose_among-choice in
    let go = c.go_on_from in
    let source = c.remove-source.result in
    let found = found_of c in
    let config_well = subst (λ o. OnOk o (failures_of ch.new.config ≡ failures_of c.args.config)) c.in-Ok.is ch.ensures.config_well in
    λ has calm calm_config.
    err_more go.result go.ensures.calm (λ e told. inr (told
    (chosen_returns c.args.returned.now c.args.disks.items found.recorded c.in-Ok.place ch.new.config found.was.was source found.chosen found.was.there found.was.read.1.same (chain_same c.args.config ch.new.config ch.ensures.reads.same has)) (source_calm c.args.disks.items c.in-Ok.place source found.was calm)
    (config_calm c.args.config ch.new.config config_well ch.ensures.config_most calm_config)))
