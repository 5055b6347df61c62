use Rattle.std.proofs.Common.{◌≡◌, ◌+◌, ℕ, ap, ◌∙◌}
use Rattle.chain.specs.Opening.{recorded_in}
use Rattle.configurations.specs.Record.{Record}
use Rattle.life.specs.Recovered.{alone_behind}
use Rattle.life.proofs.Recovery.{follows, stands_either, stands_old}
use Rattle.life.proofs.Starting.{about_of_store}
use Rattle.life.proofs.recovering.record_alone.Goals as goal

pub returns-in_default-clause-still : goal.returns-in_default-clause-still
returns-in_default-clause-still c = stands_old c.args.found c.args.config.now (alone_behind c.args.found.current (recorded_in about_of_store c.args.store.now)) c.requires.part c.requires.settled

pub returns-in_err-next-clause-still : goal.returns-in_err-next-clause-still
returns-in_err-next-clause-still c = stands_old c.args.found c.args.config.now (alone_behind c.args.found.current (recorded_in about_of_store c.args.store.now)) c.requires.part c.requires.settled

pub returns-in_err-record-clause-still : goal.returns-in_err-record-clause-still
returns-in_err-record-clause-still c =
    let more : c.in-Some.epoch ≡ c.args.found.current.epoch + 1 = c.in-Some.ensures.value ∙ ap (λ (n : ℕ). n + 1) (c.number.ensures.number ∙ c.epoch.ensures ∙ ap (λ (r : Record). r.epoch) c.current.ensures) in
    let next = follows about_of_store c.args.found.current c.in_ok-next.next c.args.store.now c.in-Some.epoch c.in_ok-next.ensures more in
    stands_either c.args.found c.args.config.now c.record.new.disk c.in_ok-next.next (alone_behind c.args.found.current (recorded_in about_of_store c.args.store.now)) c.requires.part next (c.record.ensures.numbered tt c.requires.settled)

pub returns-then-is_stopped-clause-still : goal.returns-then-is_stopped-clause-still
returns-then-is_stopped-clause-still c =
    let more : c.in-Some.epoch ≡ c.args.found.current.epoch + 1 = c.in-Some.ensures.value ∙ ap (λ (n : ℕ). n + 1) (c.number.ensures.number ∙ c.epoch.ensures ∙ ap (λ (r : Record). r.epoch) c.current.ensures) in
    let next = follows about_of_store c.args.found.current c.in_ok-next.next c.args.store.now c.in-Some.epoch c.in_ok-next.ensures more in
    stands_either c.args.found c.args.config.now c.record.new.disk c.in_ok-next.next (alone_behind c.args.found.current (recorded_in about_of_store c.args.store.now)) c.requires.part next (c.record.ensures.numbered tt c.requires.settled)

pub returns-clause-still : goal.returns-clause-still
returns-clause-still c =
    let more : c.in-Some.epoch ≡ c.args.found.current.epoch + 1 = c.in-Some.ensures.value ∙ ap (λ (n : ℕ). n + 1) (c.number.ensures.number ∙ c.epoch.ensures ∙ ap (λ (r : Record). r.epoch) c.current.ensures) in
    let next = follows about_of_store c.args.found.current c.in_ok-next.next c.args.store.now c.in-Some.epoch c.in_ok-next.ensures more in
    stands_either c.args.found c.args.config.now c.record.new.disk c.in_ok-next.next (alone_behind c.args.found.current (recorded_in about_of_store c.args.store.now)) c.requires.part next (c.record.ensures.numbered tt c.requires.settled)
