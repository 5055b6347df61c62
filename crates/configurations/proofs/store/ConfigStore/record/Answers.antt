use Rattle.std.proofs.Common.{◌∙◌}
use Rattle.configurations.specs.Record.{IsEncoding}
use Rattle.configurations.proofs.Stores.{either_before, either_storing, next_before, next_storing}
use Rattle.configurations.proofs.store.ConfigStore.record.Goals as goal

pub returns-in_err-may_record-clause-any_moment : goal.returns-in_err-may_record-clause-any_moment
returns-in_err-may_record-clause-any_moment g c = λ keeps settled.
    let disk = g.D.Disk in
    either_before _ _ _ settled disk.moment disk.may_have_left_since c.args.next c.args.disk.now (g.met.D.Disk.only_now keeps c.args.disk.now)

pub returns-in_err-payload-clause-any_moment : goal.returns-in_err-payload-clause-any_moment
returns-in_err-payload-clause-any_moment g c = λ keeps settled.
    let disk = g.D.Disk in
    either_before _ _ _ settled disk.moment disk.may_have_left_since c.args.next c.args.disk.now (g.met.D.Disk.only_now keeps c.args.disk.now)

pub returns-in_err-_receipt-clause-any_moment : goal.returns-in_err-_receipt-clause-any_moment
returns-in_err-_receipt-clause-any_moment g c = λ keeps.
    let laws = c.stores_leave_old_or_new.ensures in
    let encodes : IsEncoding c.deref.result.now c.args.next = record { is = c.in_ok-payload.ensures.whole; encoded = c.deref.ensures.value ∙ c.in_ok-payload.ensures.encoding } in
    either_storing _ _ c.self.view_is g.D.Disk.moment g.D.Disk.may_have_left_since c.args.disk.now c.store.new.disk laws.old laws.new _ _ encodes (c.store.ensures.any_moment keeps)

pub returns-clause-any_moment : goal.returns-clause-any_moment
returns-clause-any_moment g c = λ keeps.
    let laws = c.stores_leave_old_or_new.ensures in
    let encodes : IsEncoding c.deref.result.now c.args.next = record { is = c.in_ok-payload.ensures.whole; encoded = c.deref.ensures.value ∙ c.in_ok-payload.ensures.encoding } in
    either_storing _ _ c.self.view_is g.D.Disk.moment g.D.Disk.may_have_left_since c.args.disk.now c.store.new.disk laws.old laws.new _ _ encodes (c.store.ensures.any_moment keeps)

pub returns-in_err-may_record-clause-numbered : goal.returns-in_err-may_record-clause-numbered
returns-in_err-may_record-clause-numbered g c = λ keeps settled.
    let disk = g.D.Disk in
    next_before _ _ _ settled disk.moment disk.may_have_left_since c.args.next c.args.disk.now (g.met.D.Disk.only_now keeps c.args.disk.now)

pub returns-in_err-payload-clause-numbered : goal.returns-in_err-payload-clause-numbered
returns-in_err-payload-clause-numbered g c = λ keeps settled.
    let disk = g.D.Disk in
    next_before _ _ _ settled disk.moment disk.may_have_left_since c.args.next c.args.disk.now (g.met.D.Disk.only_now keeps c.args.disk.now)

pub returns-in_err-_receipt-clause-numbered : goal.returns-in_err-_receipt-clause-numbered
returns-in_err-_receipt-clause-numbered g c = λ keeps.
    let laws = c.stores_leave_old_or_new.ensures in
    let encodes : IsEncoding c.deref.result.now c.args.next = record { is = c.in_ok-payload.ensures.whole; encoded = c.deref.ensures.value ∙ c.in_ok-payload.ensures.encoding } in
    next_storing _ _ c.self.view_is g.D.Disk.moment g.D.Disk.may_have_left_since c.args.disk.now c.store.new.disk laws.old laws.new _ _ encodes (c.store.ensures.any_moment keeps)

pub returns-clause-numbered : goal.returns-clause-numbered
returns-clause-numbered g c = λ keeps.
    let laws = c.stores_leave_old_or_new.ensures in
    let encodes : IsEncoding c.deref.result.now c.args.next = record { is = c.in_ok-payload.ensures.whole; encoded = c.deref.ensures.value ∙ c.in_ok-payload.ensures.encoding } in
    next_storing _ _ c.self.view_is g.D.Disk.moment g.D.Disk.may_have_left_since c.args.disk.now c.store.new.disk laws.old laws.new _ _ encodes (c.store.ensures.any_moment keeps)
