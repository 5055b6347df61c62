use Rattle.std.proofs.Common.{List, ℕ, ap, refl, sym, subst, ◌∙◌, ◌≤◌, length}
use Rattle.std.specs.Prelude.{is_some}
use Rattle.local_store.specs.About.{about_of}
use Rattle.local_store.specs.Store.{IsStored}
use Rattle.local_store.specs.declared.store.Store as stores
use Rattle.world_model.specs.Machine.{machine_volume}
use Rattle.candidate.specs.Candidate as whole
use Rattle.candidate.specs.Copies.{HasCopy, IsCopied}
use Rattle.candidate.proofs.Refusals.{of_installed}
use Rattle.candidate.proofs.giving.Candidate+Store+D+D.finish.Goals as goal

pub returns-in-Ok-clause-finishes : goal.returns-in-Ok-clause-finishes
returns-in-Ok-clause-finishes g c = (c.in-Copying.copying, c.new.result, sym c.replace.ensures.value ∙ c.in-Copying.is, refl)

pub returns-in-Ok-clause-copy : goal.returns-in-Ok-clause-copy
returns-in-Ok-clause-copy g c = λ keeps incarnation size s had.
    let about = λ (x : stores.Store g.row.D.Denot g.D.Disk). about_of x.contents in
    let kept = λ (x : stores.Store g.row.D.Denot g.D.Disk) (volume : List ℕ). IsStored x.contents volume (g.D.Disk.gives x.disk) (g.D.Disk.may_leave_now x.disk) in
    let was = subst (HasCopy g.D.Disk.gives g.D.Disk.may_leave_now about kept size s incarnation) (sym c.replace.ensures.value ∙ c.in-Copying.is) had c.in-Ok.ensures.whole in
    let (keeping, at) = c.in-Ok.ensures.kept keeps (machine_volume size s c.in-Copying.copying.front) (was.long ∙ was.blocks) was.sb was.copy in
    let copied : IsCopied {D = g.row.D.Denot} g.D.Disk.gives g.D.Disk.may_leave_now about kept size s incarnation c.in-Ok.store = record {
      its = at.incarnation ∙ was.its;
      taken = subst (λ (n : ℕ). n ≤ length s.taken) (sym at.front_is) was.taken;
      keeping = subst (λ (n : ℕ). kept c.in-Ok.store (machine_volume size s n)) (sym at.front_is) keeping;
    } in
    subst (λ (w : whole.Whole (stores.Store g.row.D.Denot g.D.Disk)). IsCopied {D = g.row.D.Denot} g.D.Disk.gives g.D.Disk.may_leave_now about kept size s incarnation w.store) (sym c.new.ensures) copied

pub of-requires : goal.of-requires
of-requires g c = λ keeps bytes left meaning means.
    of_installed c.member-member.result c.in-Copying.copying.receiver meaning (c.member-member.ensures keeps) (c.in-Err.ensures.left keeps bytes left meaning means)

pub returns-in-Err-clause-finishes : goal.returns-in-Err-clause-finishes
returns-in-Err-clause-finishes g c =
    (c.in-Copying.copying, c.of.result, sym c.replace.ensures.value ∙ c.in-Copying.is, refl, (c.in-Err.ensures.refused, ap (λ (r : whole.Refused g.row.D.Denot). is_some r.member) c.of.ensures))
