use Rattle.std.proofs.Common.{List, ℕ, refl, subst}
use Rattle.local_store.specs.About.{about_of}
use Rattle.local_store.specs.Store.{IsStored}
use Rattle.local_store.specs.declared.store.Store as stores
use Rattle.chain.specs.Chain.{bytes_of}
use Rattle.candidate.specs.Copies.{HasCopy}
use Rattle.candidate.proofs.Noted.{noted_is}
use Rattle.candidate.proofs.candidate.Candidate+Store+D+D.note.Goals as goal

pub returns-then-is_of_recorded-clause-copy : goal.returns-then-is_of_recorded-clause-copy
returns-then-is_of_recorded-clause-copy g c = λ keeps incarnation v s shows stands had.
    let about = λ (x : stores.Store g.row.D.Denot g.D.Disk). about_of x.contents in
    let kept = λ (x : stores.Store g.row.D.Denot g.D.Disk) (volume : List ℕ). IsStored x.contents volume (g.D.Disk.gives x.disk) (g.D.Disk.may_leave_now x.disk) in
    let leaves = λ (x : stores.Store g.row.D.Denot g.D.Disk). g.D.Disk.may_leave_now x.disk in
    noted_is g.D.Disk.gives g.D.Disk.may_leave_now about kept leaves c.each_disk_has_what_is_owed.ensures.owed c.args.world.now v s shows stands c.sound.ensures.inside incarnation _ keeps c.in-Copying.copying c.note.new.self
    (c.if-is_of_recorded.ensures.0 refl) c.note.ensures.noted (c.note.ensures.copies)
    (subst (HasCopy g.D.Disk.gives g.D.Disk.may_leave_now about kept (bytes_of c.args.world.now.chain) s incarnation) c.in-Copying.is had)
