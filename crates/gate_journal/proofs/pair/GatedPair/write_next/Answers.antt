use Rattle.std.proofs.Common.{◌≡◌, Bool, true, ◌+◌, ◌-◌, ◌<◌, ℕ, List, Some, OnOk, length, subst, sym, arith}
use Rattle.std.proofs.lemmas.Result.{on_ok_weaker}
use Rattle.disk_model.specs.Disk.{LeavesOnly}
use Rattle.disk_model.specs.Frames.{touches_more}
use Rattle.disk_model.specs.Part.{inside, TouchesOnly}
use Rattle.gate_journal.specs.Pair.{HasGate, HoldsStored, IsSettledPair, Pair, entry_encoding, slot_bytes, stored, with_entry}
use Rattle.gate_journal.specs.Reading.{HoldsAt}
use Rattle.gate_journal.proofs.Entries.{held}
use Rattle.gate_journal.proofs.Lists.{on_ok_both}
use Rattle.gate_journal.proofs.Pairs.{only_slot, other_stays, range_bytes}
use Rattle.gate_journal.proofs.PairSteps.{filled_pair, filling_run}
use Rattle.gate_journal.proofs.pair.GatedPair.write_next.Goals as goal

pub returns-clause-frame : goal.returns-clause-frame
returns-clause-frame g c = λ keeps.
    let disk = g.D.Disk in
    let i = c.self.inside in
    let inv = c.self.invariant in
    let range = c.slot_part-part.result in
    let starts = c.slot_part-part.ensures.start in
    let long = c.slot_part-part.ensures.len in
    let old = c.args.disk.now in
    let new = c.write_entry.new.disk in
    subst (λ (s : Pair). TouchesOnly disk.gives disk.may_leave_now disk.moment disk.may_have_left_since s.part old new) c.self.view_is
    (touches_more i.part (omega (arith, starts)) (omega (arith, starts, long, inv.0, inv.2)) (c.write_entry.ensures.frame keeps))

pub returns-clause-other : goal.returns-clause-other
returns-clause-other g c = λ keeps.
    let disk = g.D.Disk in
    let i = c.self.inside in
    let inv = c.self.invariant in
    let range = c.slot_part-part.result in
    let starts = c.slot_part-part.ensures.start in
    let long = c.slot_part-part.ensures.len in
    let old = c.args.disk.now in
    let new = c.write_entry.new.disk in
    subst (λ (s : Pair). slot_bytes (1 - s.into) (inside s.part (disk.gives new)) ≡ slot_bytes (1 - s.into) (inside s.part (disk.gives old))) c.self.view_is
    (other_stays i.part range inv.0 i.into inv.2 starts long (c.write_entry.ensures.frame keeps))

pub returns-clause-bytes : goal.returns-clause-bytes
returns-clause-bytes g c = λ keeps.
    let disk = g.D.Disk in
    let i = c.self.inside in
    let inv = c.self.invariant in
    let range = c.slot_part-part.result in
    let starts = c.slot_part-part.ensures.start in
    let long = c.slot_part-part.ensures.len in
    let old = c.args.disk.now in
    let new = c.write_entry.new.disk in
    let n = 13 + length c.args.payload.now in
    subst (λ (s : Pair). OnOk c.write_entry.result (HoldsAt (slot_bytes s.into (inside s.part (disk.gives new))) 0 n (entry_encoding (record { number = s.number + 1; payload = c.args.payload.now })))) c.self.view_is
    (on_ok_weaker c.write_entry.result
    (subst (λ (x : List ℕ). HoldsAt x 0 n (entry_encoding (record { number = i.number + 1; payload = c.args.payload.now }))) (range_bytes i.part range inv.0 i.into inv.2 starts long (disk.gives new)))
    (c.write_entry.ensures.bytes keeps))

pub returns-clause-settled : goal.returns-clause-settled
returns-clause-settled g c = λ keeps slots.
    let disk = g.D.Disk in
    let i = c.self.inside in
    let inv = c.self.invariant in
    let range = c.slot_part-part.result in
    let starts = c.slot_part-part.ensures.start in
    let long = c.slot_part-part.ensures.len in
    let old = c.args.disk.now in
    let new = c.write_entry.new.disk in
    let payload = c.args.payload.now in
    let stays = other_stays i.part range inv.0 i.into inv.2 starts long (c.write_entry.ensures.frame keeps) in
    subst (λ (s : Pair). s.number < 9223372036854775807 → IsSettledPair s slots (disk.gives old) (disk.may_leave_now old)
    → OnOk c.write_entry.result (IsSettledPair (stored s) (with_entry s.into (Some (record { number = s.number + 1; payload = payload })) slots) (disk.gives new) (disk.may_leave_now new))) c.self.view_is
    (λ below settled. on_ok_both c.write_entry.result
    (λ stands whole. filled_pair _ range inv.0 inv.2 starts long slots settled stays whole payload (held (record { number = i.number + 1; payload = payload }) (inside range (disk.gives new)) (13 + length payload) (record { limit = omega arith; fits = c.requires.fits }) stands))
    (c.write_entry.ensures.bytes keeps) (c.write_entry.ensures.whole keeps))
    c.requires.number

pub returns-clause-any_moment : goal.returns-clause-any_moment
returns-clause-any_moment g c = λ keeps slots.
    let disk = g.D.Disk in
    let i = c.self.inside in
    let inv = c.self.invariant in
    let range = c.slot_part-part.result in
    let starts = c.slot_part-part.ensures.start in
    let long = c.slot_part-part.ensures.len in
    let old = c.args.disk.now in
    let new = c.write_entry.new.disk in
    let here = range_bytes i.part range inv.0 i.into inv.2 starts long in
    subst (λ (s : Pair). s.is_closed ≡ true → IsSettledPair s slots (disk.gives old) (disk.may_leave_now old)
    → LeavesOnly disk.moment disk.may_have_left_since old new (λ d. HoldsStored slots s.into (record { number = s.number + 1; payload = c.args.payload.now }) (inside s.part d))) c.self.view_is
    (λ begun settled. filling_run _ range inv.0 inv.2 starts long slots settled (c.write_entry.ensures.frame keeps) (record { number = i.number + 1; payload = c.args.payload.now })
    (c.write_entry.ensures.any_moment keeps
    (subst (HasGate true) (sym (here (disk.gives old))) (subst (λ (b : Bool). HasGate b (slot_bytes i.into (inside i.part (disk.gives old)))) begun settled.gate))
    (only_slot i.part range inv.0 i.into inv.2 starts long (disk.gives old) (disk.may_leave_now old) settled.durable)))
    c.requires.begun
