use Rattle.std.proofs.Common.{◌∙◌}
use Rattle.disk_model.specs.Moments.{started, weaker}
use Rattle.configurations.specs.Record.{IsEncoding}
use Rattle.configurations.proofs.Openings.{made_with, not_begun}
use Rattle.configurations.proofs.store.ConfigStore.create.Goals as goal

pub returns-in_err-payload-clause-any_moment : goal.returns-in_err-payload-clause-any_moment
returns-in_err-payload-clause-any_moment g c = λ keeps.
    let disk = g.D.Disk in
    let old = c.args.disk.now in
    started disk.moment disk.may_have_left_since old _ (λ d left. not_begun c.args.part c.args.first (disk.may_leave_now old) d (g.met.D.Disk.only_now keeps old d left))

pub returns-in_err-pair-clause-any_moment : goal.returns-in_err-pair-clause-any_moment
returns-in_err-pair-clause-any_moment g c = λ keeps.
    let disk = g.D.Disk in
    let old = c.args.disk.now in
    let encodes : IsEncoding c.deref.result.now c.args.first = record { is = c.in_ok-payload.ensures.whole; encoded = c.deref.ensures.value ∙ c.in_ok-payload.ensures.encoding } in
    weaker disk.moment disk.may_have_left_since old c.create.new.disk _ _ (made_with c.args.part c.args.first c.deref.result.now (disk.may_leave_now old) encodes) (c.create.ensures.any_moment keeps)

pub returns-clause-any_moment : goal.returns-clause-any_moment
returns-clause-any_moment g c = λ keeps.
    let disk = g.D.Disk in
    let old = c.args.disk.now in
    let encodes : IsEncoding c.deref.result.now c.args.first = record { is = c.in_ok-payload.ensures.whole; encoded = c.deref.ensures.value ∙ c.in_ok-payload.ensures.encoding } in
    weaker disk.moment disk.may_have_left_since old c.create.new.disk _ _ (made_with c.args.part c.args.first c.deref.result.now (disk.may_leave_now old) encodes) (c.create.ensures.any_moment keeps)
