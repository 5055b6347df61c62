use Rattle.std.proofs.lemmas.Result.{err_from_is_err_and}
use Rattle.local_store.specs.Store.{IsStored}
use Rattle.joining.proofs.Entering.{same_members}
use Rattle.joining.proofs.Orders.{only_manager, only_manager_then}
use Rattle.joining.proofs.Refusing.{not_entered}
use Rattle.joining.proofs.rebuilding.rebuild.Goals as goal

pub returns-clause-keep : goal.returns-clause-keep
returns-clause-keep g c = λ keeps volume long all.
    c.tell_all.ensures.keep volume (c.in_ok-enter.ensures.keep volume (c.in_ok-store.ensures.copied keeps volume long all) (c.in_ok-store.ensures.keep keeps volume all))

pub returns-in_err-enter-clause-refused : goal.returns-in_err-enter-clause-refused
returns-in_err-enter-clause-refused g c =
    let p = err_from_is_err_and c.from_residual-in_err-enter.result c.from_residual-in_err-enter.ensures.1 in
    rw (p.1, p.2) (not_entered _ _ _ g.D.Disk.gives g.D.Disk.failures g.C.Disk.failures c.args.slot c.args.disk c.args.management.now c.enter.new.management c.args.world.now c.enter.new.world
    c.in_ok-store.store c.in_ok-store.receipt c.in_ok-store.ensures.rebuilt c.copy_volume.new.management
    (only_manager_then c.args.management.now c.join.new.self c.copy_volume.new.management _ (only_manager c.args.management.now c.join.new.self _ c.in_default-join.ensures.done) c.copy_volume.ensures.management) _ c.in_err-enter.ensures.refused)

pub returns-in_err-enter-clause-kept : goal.returns-in_err-enter-clause-kept
returns-in_err-enter-clause-kept g c = λ keeps.
    let p = err_from_is_err_and c.from_residual-in_err-enter.result c.from_residual-in_err-enter.ensures.1 in
    rw (p.1, p.2) (λ runs volume all. same_members (λ s v. IsStored s.contents v (g.D.Disk.gives s.disk) (g.D.Disk.may_leave_now s.disk)) c.copy_volume.new.world.chain c.enter.new.world.chain c.in_err-enter.ensures.members volume (c.in_ok-store.ensures.keep keeps volume all))

pub returns-in_err-store-clause-kept : goal.returns-in_err-store-clause-kept
returns-in_err-store-clause-kept g c = λ keeps.
    let p = err_from_is_err_and c.from_residual.result c.from_residual.ensures.1 in rw (p.1, p.2) (c.in_err-store.ensures.kept keeps)
