use Rattle.std.proofs.Common.{◌≡◌, true, ◌-◌, ℕ, List, None, OnOk, subst, sym, arith}
use Rattle.std.proofs.lemmas.Result.{on_ok_weaker}
use Rattle.disk_model.specs.Disk.{Holds, LeavesOnly}
use Rattle.disk_model.specs.Frames.{touches_more}
use Rattle.disk_model.specs.Part.{inside, TouchesOnly}
use Rattle.gate_journal.specs.Pair.{HasGate, HoldsClosing, IsSettledPair, Pair, closing, entry_of, slot_bytes, with_entry}
use Rattle.gate_journal.proofs.Lists.{on_ok_both}
use Rattle.gate_journal.proofs.Pairs.{only_slot, other_stays, range_bytes}
use Rattle.gate_journal.proofs.PairSteps.{closed_pair, closing_run, here_holds}
use Rattle.gate_journal.proofs.pair.GatedPair.close_next.Goals as goal

pub returns-clause-frame : goal.returns-clause-frame
returns-clause-frame g c = λ keeps.
    let disk = g.D.Disk in
    let i = c.self.inside in
    let inv = c.self.invariant in
    let range = c.slot_part.result in
    let starts = c.slot_part.ensures.start in
    let long = c.slot_part.ensures.len in
    let old = c.args.disk.now in
    let new = c.close_gate.new.disk in
    subst (λ (s : Pair). TouchesOnly disk.gives disk.may_leave_now disk.moment disk.may_have_left_since s.part old new) c.self.view_is
    (touches_more i.part (omega (arith, starts)) (omega (arith, starts, long, inv.0, inv.2)) (c.close_gate.ensures.frame keeps))

pub returns-clause-other : goal.returns-clause-other
returns-clause-other g c = λ keeps.
    let disk = g.D.Disk in
    let i = c.self.inside in
    let inv = c.self.invariant in
    let range = c.slot_part.result in
    let starts = c.slot_part.ensures.start in
    let long = c.slot_part.ensures.len in
    let old = c.args.disk.now in
    let new = c.close_gate.new.disk in
    subst (λ (s : Pair). slot_bytes (1 - s.into) (inside s.part (disk.gives new)) ≡ slot_bytes (1 - s.into) (inside s.part (disk.gives old))) c.self.view_is
    (other_stays i.part range inv.0 i.into inv.2 starts long (c.close_gate.ensures.frame keeps))

pub returns-clause-bytes : goal.returns-clause-bytes
returns-clause-bytes g c = λ keeps.
    let disk = g.D.Disk in
    let i = c.self.inside in
    let inv = c.self.invariant in
    let range = c.slot_part.result in
    let starts = c.slot_part.ensures.start in
    let long = c.slot_part.ensures.len in
    let old = c.args.disk.now in
    let new = c.close_gate.new.disk in
    let here = range_bytes i.part range inv.0 i.into inv.2 starts long in
    subst (λ (s : Pair). OnOk c.close_gate.result (Holds (slot_bytes s.into (inside s.part (disk.gives old))) 0 (closing s.is_closed) (slot_bytes s.into (inside s.part (disk.gives new))))) c.self.view_is
    (on_ok_weaker c.close_gate.result
    (λ holds. subst (λ (x : List ℕ). Holds x 0 (closing i.is_closed) (slot_bytes i.into (inside i.part (disk.gives new)))) (here (disk.gives old))
    (subst (Holds (inside range (disk.gives old)) 0 (closing i.is_closed)) (here (disk.gives new)) holds))
    (c.close_gate.ensures.bytes keeps))

pub returns-clause-settled : goal.returns-clause-settled
returns-clause-settled g c = λ keeps slots.
    let disk = g.D.Disk in
    let i = c.self.inside in
    let inv = c.self.invariant in
    let range = c.slot_part.result in
    let starts = c.slot_part.ensures.start in
    let long = c.slot_part.ensures.len in
    let old = c.args.disk.now in
    let new = c.close_gate.new.disk in
    let here = range_bytes i.part range inv.0 i.into inv.2 starts long in
    let stays = other_stays i.part range inv.0 i.into inv.2 starts long (c.close_gate.ensures.frame keeps) in
    subst (λ (s : Pair). IsSettledPair s slots (disk.gives old) (disk.may_leave_now old) → OnOk c.close_gate.result (IsSettledPair (record s { is_closed = true }) (with_entry s.into None slots) (disk.gives new) (disk.may_leave_now new))) c.self.view_is
    (λ settled. on_ok_both c.close_gate.result
    (λ gate whole. closed_pair _ range inv.0 inv.2 starts long slots settled stays whole gate)
    (c.close_gate.ensures.closed keeps (subst (HasGate i.is_closed) (sym (here (disk.gives old))) settled.gate))
    (c.close_gate.ensures.whole keeps))

pub returns-clause-any_moment : goal.returns-clause-any_moment
returns-clause-any_moment g c = λ keeps slots.
    let disk = g.D.Disk in
    let i = c.self.inside in
    let inv = c.self.invariant in
    let range = c.slot_part.result in
    let starts = c.slot_part.ensures.start in
    let long = c.slot_part.ensures.len in
    let old = c.args.disk.now in
    let new = c.close_gate.new.disk in
    let s0 : Pair = record { part = i.part; number = i.number; into = i.into; is_closed = i.is_closed; other_is_closed = i.other_is_closed; broken = i.broken } in
    let here = range_bytes i.part range inv.0 i.into inv.2 starts long in
    subst (λ (s : Pair). IsSettledPair s slots (disk.gives old) (disk.may_leave_now old) → LeavesOnly disk.moment disk.may_have_left_since old new (λ d. HoldsClosing slots s.into (inside s.part d))) c.self.view_is
    (λ settled. closing_run s0 range inv.0 inv.2 starts long slots settled (c.close_gate.ensures.frame keeps)
    (c.close_gate.ensures.any_moment keeps (entry_of i.into slots) (here_holds s0 range inv.0 inv.2 starts long slots (disk.gives old) settled.holds)
    (subst (HasGate i.is_closed) (sym (here (disk.gives old))) settled.gate)
    (only_slot i.part range inv.0 i.into inv.2 starts long (disk.gives old) (disk.may_leave_now old) settled.durable)))
