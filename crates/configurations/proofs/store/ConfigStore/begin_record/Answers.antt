use Rattle.configurations.proofs.Stores.{held_before, held_closing}
use Rattle.configurations.proofs.store.ConfigStore.begin_record.Goals as goal

pub returns-in_err-may_record-clause-any_moment : goal.returns-in_err-may_record-clause-any_moment
returns-in_err-may_record-clause-any_moment g c = λ keeps settled.
    let disk = g.D.Disk in
    held_before _ _ _ settled disk.moment disk.may_have_left_since c.args.disk.now (g.met.D.Disk.only_now keeps c.args.disk.now)

pub returns-in_err-begin_store-clause-any_moment : goal.returns-in_err-begin_store-clause-any_moment
returns-in_err-begin_store-clause-any_moment g c = λ keeps.
    held_closing _ _ c.self.view_is g.D.Disk.moment g.D.Disk.may_have_left_since c.args.disk.now c.begin_store.new.disk c.stores_leave_old_or_new.ensures.old (c.begin_store.ensures.any_moment keeps)

pub returns-clause-any_moment : goal.returns-clause-any_moment
returns-clause-any_moment g c = λ keeps.
    held_closing _ _ c.self.view_is g.D.Disk.moment g.D.Disk.may_have_left_since c.args.disk.now c.begin_store.new.disk c.stores_leave_old_or_new.ensures.old (c.begin_store.ensures.any_moment keeps)
