use Rattle.std.proofs.Common.{◌∙◌, ◌*◌, ap, sym, subst}
use Rattle.local_store.specs.About.{about_of}
use Rattle.local_store.specs.Store.{IsStored}
use Rattle.local_store.specs.declared.store.Store.{Store}
use Rattle.joining.specs.Rebuilding.{AllKeep}
use Rattle.joining.specs.Refusing.{RefusesRebuilding}
use Rattle.comeback.proofs.returning.«Comeback+Store+D+D».rebuild.Goals as goal

pub returns-in-Ok-clause-keep : goal.returns-in-Ok-clause-keep
returns-in-Ok-clause-keep g c = λ keeps volume long all.
    let same = ap (λ r. r.world.chain) c.self.view_is in
    c.in-Ok.ensures.keep keeps volume (long ∙ ap (λ h. 4096 * h.geometry.blocks) (sym same))
    (subst (AllKeep (λ s v. IsStored s.contents v (g.D.Disk.gives s.disk) (g.D.Disk.may_leave_now s.disk)) volume) (sym same) all)

pub returns-in-Err-clause-refused : goal.returns-in-Err-clause-refused
returns-in-Err-clause-refused g c = λ whole.
    subst (λ r. RefusesRebuilding {S = Store g.row.D.Denot g.D.Disk} g.D.Disk.keeps_model (λ s. about_of s.contents) (λ s volume. IsStored s.contents volume (g.D.Disk.gives s.disk) (g.D.Disk.may_leave_now s.disk)) g.D.Disk.gives g.D.Disk.failures g.D.Disk.failures
    c.args.slot c.args.disk r.management c.rebuild.new.management r.world c.rebuild.new.world c.in-Err.refusal) c.self.view_is c.in-Err.ensures.refused
