use Rattle.std.proofs.Common.{◌≡◌, ◌≤◌, ◌∙◌, ap, sym, subst, length, List, ℕ, arith}
use Rattle.std.proofs.lemmas.Result.{err_from_is_err_and}
use Rattle.home_blocks.specs.Home.{settled_holds}
use Rattle.home_blocks.specs.Places.{disk_size_of}
use Rattle.local_store.specs.Meaning.{Meaning}
use Rattle.local_store.specs.Store.{IsStored}
use Rattle.joining.specs.Giving.{HasVersionOne}
use Rattle.joining.proofs.Opening.{opening_refused}
use Rattle.joining.proofs.giving.opened.Goals as goal

pub returns-in-Two-clause-kept : goal.returns-in-Two-clause-kept
returns-in-Two-clause-kept g c = λ keeps sb front volume means.
    let (v, stored, is) = c.in_ok-store.ensures.stored keeps in
    let one = c.disks_mean_one.ensures _ _ (g.D.Disk.gives c.args.disk) is means in (
      subst (λ (x : List ℕ). IsStored c.in_ok-store.store.contents x (g.D.Disk.gives c.in_ok-store.store.disk) (g.D.Disk.may_leave_now c.in_ok-store.store.disk)) (ap (λ (m : Meaning). m.volume) one) stored,
      record {
        slot = ap (λ (m : Meaning). m.slot) one;
        incarnation = ap (λ (m : Meaning). m.incarnation) one;
        sizes = ap (λ (m : Meaning). m.geometry) one;
        front_is = ap (λ (m : Meaning). m.front) one;
      },
    )

pub returns-in-One-clause-size : goal.returns-in-One-clause-size
returns-in-One-clause-size g c = λ keeps.
    let same = (c.in_ok-store.ensures.reads keeps).same in
    let one = g.met.D.Disk.gives_size keeps c.args.disk in
    let other = g.met.D.Disk.gives_size keeps c.into_disk.result in
    sym other ∙ ap length (ap g.D.Disk.gives c.into_disk.ensures ∙ same) ∙ one

pub returns-in_err-store-clause-opens : goal.returns-in_err-store-clause-opens
returns-in_err-store-clause-opens g c = λ keeps meaning means room.
    let p = err_from_is_err_and c.from_residual.result c.from_residual.ensures.1 in
    let long : length (g.D.Disk.gives c.args.disk) ≡ g.D.Disk.size c.args.disk = g.met.D.Disk.gives_size keeps c.args.disk in
    let fits : disk_size_of meaning.geometry ≤ length (g.D.Disk.gives c.args.disk) = omega (arith, room, long) in
    rw (p.1, p.2) (opening_refused (g.D.Disk.gives c.args.disk) _ (c.meanings_are_opened.ensures meaning (g.D.Disk.gives c.args.disk) means fits) _
    c.in_err-store.ensures.told (c.in_err-store.ensures.not_a_volume keeps) (c.in_err-store.ensures.other_version keeps) (c.in_err-store.ensures.unfinished keeps))

pub returns-in-One-clause-opens : goal.returns-in-One-clause-opens
returns-in-One-clause-opens g c = λ keeps meaning means room.
    let (v, stored, is) = c.in_ok-store.ensures.stored keeps in
    subst HasVersionOne (ap g.D.Disk.gives (sym c.into_disk.ensures)) (c.in_ok-store.store.contents.home.superblock, settled_holds stored.superblock, sym c.version.ensures ∙ c.in-One.is)
