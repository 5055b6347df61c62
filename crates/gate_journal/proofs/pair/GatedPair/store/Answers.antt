use Rattle.std.proofs.Common.{ap, subst}
use Rattle.disk_model.specs.Frames.{touches_then}
use Rattle.disk_model.specs.Part.{TouchesOnly}
use Rattle.disk_model.specs.declared.part.Part.{Part}
use Rattle.gate_journal.specs.Pair.{Pair}
use Rattle.gate_journal.proofs.pair.GatedPair.store.Goals as goal

pub returns-clause-frame : goal.returns-clause-frame
returns-clause-frame g c = λ keeps.
    let same = ap (λ (s : Pair). s.part) c.in_ok-begin_store.ensures.ok in
    touches_then (c.begin_store.ensures.frame keeps)
    (subst (λ (p : Part). TouchesOnly g.D.Disk.gives g.D.Disk.may_leave_now g.D.Disk.moment g.D.Disk.may_have_left_since p c.begin_store.new.disk c.end_store.new.disk) same (c.end_store.ensures.frame keeps))
