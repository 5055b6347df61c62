use Rattle.std.proofs.Common.{inl, inr, ⊎_elim, true, false, List, ℕ, None, refl}
use Rattle.disk_model.specs.Frames.{only_inside, touches_then}
use Rattle.disk_model.specs.Moments.{then_run, weaker}
use Rattle.disk_model.specs.Part.{inside, LeftInside}
use Rattle.gate_journal.specs.Pair.{Entry, HoldsPair, HoldsStored, IsBeingMade, IsCleared, IsSettledPair, Pair, Slots, slot_bytes}
use Rattle.gate_journal.proofs.Clearing.{cleared_gate, none_uncovers}
use Rattle.gate_journal.proofs.Entries.{none_behind}
use Rattle.gate_journal.proofs.pair.GatedPair.create.Goals as goal

pub returns-in_err-receipt-clause-any_moment : goal.returns-in_err-receipt-clause-any_moment
returns-in_err-receipt-clause-any_moment g c = λ keeps.
    let disk = g.D.Disk in
    let part = c.args.part in
    let d0 = c.args.disk.now in
    let d1 = c.clear.new.disk in
    let left = disk.may_leave_now d0 in
    let area = inside part (disk.gives d1) in
    let slots : Slots = record { first = None; second = None } in
    let fresh : Pair = record { part = part; number = 0; into = 0; is_closed = true; other_is_closed = true; broken = false } in
    let first = cleared_gate (slot_bytes 0 area) (c.in_ok-clear.ensures.first keeps) in
    let second = cleared_gate (slot_bytes 1 area) (c.in_ok-clear.ensures.second keeps) in
    let settled : IsSettledPair fresh slots (disk.gives d1) (disk.may_leave_now d1) = record {
      holds = record { first = none_behind (slot_bytes 0 area) first; second = none_behind (slot_bytes 1 area) second };
      number = refl;
      into = refl;
      gate = first;
      other_gate = second;
      runs = refl;
      durable = only_inside part (disk.gives d1) (disk.may_leave_now d1) (c.in_ok-clear.ensures.whole keeps);
    } in
    let d2 = c.store.new.disk in
    let payload = c.args.payload.now in
    let new : Entry = record { number = 1; payload = payload } in
    let Q : List ℕ → Type 0 = IsBeingMade part payload left in
    let x = inside part (disk.gives d0) in
    let there : LeftInside part left x = (disk.gives d0, g.met.D.Disk.leaves_gives keeps d0, refl) in
    let empty : (d : List ℕ) → HoldsPair slots (inside part d) → Q d = λ d holds. inl (
      (x, there, none_uncovers (slot_bytes 0 x) (slot_bytes 0 (inside part d)) holds.first),
      (x, there, none_uncovers (slot_bytes 1 x) (slot_bytes 1 (inside part d)) holds.second),
    ) in
    then_run disk.moment disk.may_have_left_since d0 d1 d2 Q
    (weaker disk.moment disk.may_have_left_since d0 d1 (λ d. IsCleared part 0 left d × IsCleared part 1 left d) Q (λ d cleared. inl cleared) (c.clear.ensures.any_moment keeps))
    (weaker disk.moment disk.may_have_left_since d1 d2 (λ d. HoldsStored slots 0 new (inside part d)) Q
    (λ d stored. ⊎_elim (empty d) (λ either. ⊎_elim (empty d) (λ holds. inr holds) either) stored)
    (c.store.ensures.any_moment keeps slots settled))

pub returns-clause-any_moment : goal.returns-clause-any_moment
returns-clause-any_moment g c = λ keeps.
    let disk = g.D.Disk in
    let part = c.args.part in
    let d0 = c.args.disk.now in
    let d1 = c.clear.new.disk in
    let left = disk.may_leave_now d0 in
    let area = inside part (disk.gives d1) in
    let slots : Slots = record { first = None; second = None } in
    let fresh : Pair = record { part = part; number = 0; into = 0; is_closed = true; other_is_closed = true; broken = false } in
    let first = cleared_gate (slot_bytes 0 area) (c.in_ok-clear.ensures.first keeps) in
    let second = cleared_gate (slot_bytes 1 area) (c.in_ok-clear.ensures.second keeps) in
    let settled : IsSettledPair fresh slots (disk.gives d1) (disk.may_leave_now d1) = record {
      holds = record { first = none_behind (slot_bytes 0 area) first; second = none_behind (slot_bytes 1 area) second };
      number = refl;
      into = refl;
      gate = first;
      other_gate = second;
      runs = refl;
      durable = only_inside part (disk.gives d1) (disk.may_leave_now d1) (c.in_ok-clear.ensures.whole keeps);
    } in
    let d2 = c.store.new.disk in
    let payload = c.args.payload.now in
    let new : Entry = record { number = 1; payload = payload } in
    let Q : List ℕ → Type 0 = IsBeingMade part payload left in
    let x = inside part (disk.gives d0) in
    let there : LeftInside part left x = (disk.gives d0, g.met.D.Disk.leaves_gives keeps d0, refl) in
    let empty : (d : List ℕ) → HoldsPair slots (inside part d) → Q d = λ d holds. inl (
      (x, there, none_uncovers (slot_bytes 0 x) (slot_bytes 0 (inside part d)) holds.first),
      (x, there, none_uncovers (slot_bytes 1 x) (slot_bytes 1 (inside part d)) holds.second),
    ) in
    then_run disk.moment disk.may_have_left_since d0 d1 d2 Q
    (weaker disk.moment disk.may_have_left_since d0 d1 (λ d. IsCleared part 0 left d × IsCleared part 1 left d) Q (λ d cleared. inl cleared) (c.clear.ensures.any_moment keeps))
    (weaker disk.moment disk.may_have_left_since d1 d2 (λ d. HoldsStored slots 0 new (inside part d)) Q
    (λ d stored. ⊎_elim (empty d) (λ either. ⊎_elim (empty d) (λ holds. inr holds) either) stored)
    (c.store.ensures.any_moment keeps slots settled))

pub returns-in_err-receipt-clause-frame : goal.returns-in_err-receipt-clause-frame
returns-in_err-receipt-clause-frame g c = λ keeps. touches_then (c.clear.ensures.frame keeps) (c.store.ensures.frame keeps)

pub returns-clause-frame : goal.returns-clause-frame
returns-clause-frame g c = λ keeps. touches_then (c.clear.ensures.frame keeps) (c.store.ensures.frame keeps)

pub returns-clause-settled : goal.returns-clause-settled
returns-clause-settled g c = λ keeps.
    let disk = g.D.Disk in
    let part = c.args.part in
    let d0 = c.args.disk.now in
    let d1 = c.clear.new.disk in
    let left = disk.may_leave_now d0 in
    let area = inside part (disk.gives d1) in
    let slots : Slots = record { first = None; second = None } in
    let fresh : Pair = record { part = part; number = 0; into = 0; is_closed = true; other_is_closed = true; broken = false } in
    let first = cleared_gate (slot_bytes 0 area) (c.in_ok-clear.ensures.first keeps) in
    let second = cleared_gate (slot_bytes 1 area) (c.in_ok-clear.ensures.second keeps) in
    let settled : IsSettledPair fresh slots (disk.gives d1) (disk.may_leave_now d1) = record {
      holds = record { first = none_behind (slot_bytes 0 area) first; second = none_behind (slot_bytes 1 area) second };
      number = refl;
      into = refl;
      gate = first;
      other_gate = second;
      runs = refl;
      durable = only_inside part (disk.gives d1) (disk.may_leave_now d1) (c.in_ok-clear.ensures.whole keeps);
    } in
    c.in_ok-receipt.ensures.settled keeps slots settled
