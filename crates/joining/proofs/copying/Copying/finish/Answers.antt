use Rattle.std.proofs.Common.{◌≤◌, inl, inr, subst, sym, ℕ}
use Rattle.std.proofs.lemmas.Result.{err_from_is_err_and}
use Rattle.home_blocks.specs.Places.{disk_size_of}
use Rattle.local_store.specs.Installer.{finished_meaning}
use Rattle.local_store.specs.Meaning.{Means}
use Rattle.local_store.specs.Refusal.{IsOfOpening}
use Rattle.rejoin_catchup.specs.Receiving.{disk_of}
use Rattle.joining.proofs.Ending.{if_some, read_leaves}
use Rattle.joining.proofs.Opening.{end_finish}
use Rattle.joining.proofs.Putting.{from_some, some_of}
use Rattle.joining.proofs.copying.Copying.finish.Goals as goal

pub returns-in_err-receipt-clause-any_moment_refused : goal.returns-in_err-receipt-clause-any_moment_refused
returns-in_err-receipt-clause-any_moment_refused g c = λ keeps volume long sb was.
    let p = err_from_is_err_and c.from_residual.result c.from_residual.ensures.1 in rw (p.1, p.2) (c.in_err-receipt.ensures.any_moment_refused keeps volume long sb was)

pub returns-in_err-store-clause-any_moment_refused : goal.returns-in_err-store-clause-any_moment_refused
returns-in_err-store-clause-any_moment_refused g c = λ keeps volume long sb was.
    let p = err_from_is_err_and c.from_residual-in_err-store.result c.from_residual-in_err-store.ensures.1 in rw (p.1, p.2) (if_some _ (disk_of c.args.self.receiver) (λ before here.
    read_leaves g.D.Disk.gives g.D.Disk.may_leave_now g.D.Disk.moment g.D.Disk.may_have_left_since sb c.args.self.front volume before c.in_ok-receipt.field-0.disk _
    (from_some _ (disk_of c.args.self.receiver) (c.in_ok-receipt.ensures.any_moment keeps volume long sb was) before here)
    (c.in_ok-receipt.ensures.means keeps volume long sb was) (c.in_ok-receipt.ensures.durable keeps) (c.in_err-store.ensures.back keeps)))

pub returns-clause-kept : goal.returns-clause-kept
returns-clause-kept g c = λ keeps volume long sb was. c.in_ok-store.ensures.kept keeps sb c.args.self.front volume (c.in_ok-receipt.ensures.means keeps volume long sb was)

pub returns-clause-any_moment : goal.returns-clause-any_moment
returns-clause-any_moment g c = λ keeps volume long sb was. if_some _ (disk_of c.args.self.receiver) (λ before here.
    read_leaves g.D.Disk.gives g.D.Disk.may_leave_now g.D.Disk.moment g.D.Disk.may_have_left_since sb c.args.self.front volume before c.in_ok-receipt.field-0.disk c.in_ok-store.store.disk
    (from_some _ (disk_of c.args.self.receiver) (c.in_ok-receipt.ensures.any_moment keeps volume long sb was) before here)
    (c.in_ok-receipt.ensures.means keeps volume long sb was) (c.in_ok-receipt.ensures.durable keeps) (c.in_ok-store.ensures.reads keeps))

pub returns-in_err-receipt-clause-refused : goal.returns-in_err-receipt-clause-refused
returns-in_err-receipt-clause-refused g c =
    let p = err_from_is_err_and c.from_residual.result c.from_residual.ensures.1 in rw (p.1, p.2) (end_finish c.args.self.broken _ c.in_err-receipt.ensures.refused)

pub returns-in_err-receipt-clause-finishes : goal.returns-in_err-receipt-clause-finishes
returns-in_err-receipt-clause-finishes g c = λ keeps volume long sb was room.
    let p = err_from_is_err_and c.from_residual.result c.from_residual.ensures.1 in rw (p.1, p.2) (inl c.in_err-receipt.ensures.refused)

pub returns-in_err-store-clause-finishes : goal.returns-in_err-store-clause-finishes
returns-in_err-store-clause-finishes g c = λ keeps volume long sb was room.
    let p = err_from_is_err_and c.from_residual-in_err-store.result c.from_residual-in_err-store.ensures.1 in
    let (d, here) = some_of (disk_of c.args.self.receiver) c.in_ok-receipt.ensures.there in
    let fits = from_some (λ was. disk_size_of sb.geometry ≤ g.D.Disk.size was) (disk_of c.args.self.receiver) room d here in
    let same = from_some _ (disk_of c.args.self.receiver) c.in_ok-receipt.ensures.size d here in
    rw (p.1, p.2) (inr (c.in_err-store.ensures.opens keeps (finished_meaning sb c.args.self.front volume) (c.in_ok-receipt.ensures.means keeps volume long sb was)
    (subst (λ (n : ℕ). disk_size_of sb.geometry ≤ n) (sym same) fits)))

pub returns-in_err-receipt-clause-broken : goal.returns-in_err-receipt-clause-broken
returns-in_err-receipt-clause-broken g c = λ there.
    let p = err_from_is_err_and c.from_residual.result c.from_residual.ensures.1 in rw (p.1, p.2) (c.in_err-receipt.ensures.broken there)

pub returns-in_err-store-clause-broken : goal.returns-in_err-store-clause-broken
returns-in_err-store-clause-broken g c = λ there.
    let p = err_from_is_err_and c.from_residual-in_err-store.result c.from_residual-in_err-store.ensures.1 in
    rw (p.1, p.2) (λ same. absurd (subst IsOfOpening same c.in_err-store.ensures.told))

pub returns-in_err-receipt-clause-left : goal.returns-in_err-receipt-clause-left
returns-in_err-receipt-clause-left g c = λ keeps.
    let p = err_from_is_err_and c.from_residual.result c.from_residual.ensures.1 in rw (p.1, p.2) (c.in_err-receipt.ensures.left keeps)

pub returns-in_err-store-clause-left : goal.returns-in_err-store-clause-left
returns-in_err-store-clause-left g c = λ keeps.
    let p = err_from_is_err_and c.from_residual-in_err-store.result c.from_residual-in_err-store.ensures.1 in
    let disk = c.in_ok-receipt.field-0.disk in
    let back = c.in_err-store.ensures.back keeps in
    rw (p.1, p.2) (λ bytes left meaning means.
    let was = back.moments.each bytes (g.met.D.Disk.counts_now keeps _ (g.D.Disk.moment disk) bytes back.moments.later left) in
    c.in_ok-receipt.ensures.installed keeps meaning (subst (Means meaning) (c.in_ok-receipt.ensures.durable keeps bytes was) means))
