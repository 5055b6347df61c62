use Rattle.std.proofs.Common.{◌⊎◌, true, false, None, refl, subst}
use Rattle.disk_model.specs.Disk.{Torn}
use Rattle.disk_model.specs.Moments.{weaker}
use Rattle.disk_model.specs.Part.{inside}
use Rattle.gate_journal.specs.Pair.{HasGate, HoldsSlot}
use Rattle.gate_journal.specs.Runs.{WasTorn}
use Rattle.gate_journal.proofs.Entries.{closing_torn}
use Rattle.gate_journal.proofs.pair_slot.close_gate.Goals as goal

pub returns-then-is_closed-clause-any_moment : goal.returns-then-is_closed-clause-any_moment
returns-then-is_closed-clause-any_moment g c = λ keeps entry holds gate durable.
    let part = c.args.part in
    let x = inside part (g.D.Disk.gives c.args.disk.now) in
    weaker g.D.Disk.moment g.D.Disk.may_have_left_since c.args.disk.now c.write_durably.new.disk
    (WasTorn part 0 0 (g.D.Disk.may_leave_now c.args.disk.now)) (λ d. HoldsSlot entry (inside part d) ⊎ HoldsSlot None (inside part d))
    (λ d (y, was, torn). closing_torn true entry x (inside part d) 0 refl holds (subst (λ b. HasGate b x) c.if-is_closed.true gate) (subst (λ l. Torn 0 0 l (inside part d)) (durable y was) torn))
    (c.write_durably.ensures.any_moment keeps)

pub returns-else-is_closed-clause-any_moment : goal.returns-else-is_closed-clause-any_moment
returns-else-is_closed-clause-any_moment g c = λ keeps entry holds gate durable.
    let part = c.args.part in
    let x = inside part (g.D.Disk.gives c.args.disk.now) in
    weaker g.D.Disk.moment g.D.Disk.may_have_left_since c.args.disk.now c.write_durably-else-is_closed.new.disk
    (WasTorn part 0 1 (g.D.Disk.may_leave_now c.args.disk.now)) (λ d. HoldsSlot entry (inside part d) ⊎ HoldsSlot None (inside part d))
    (λ d (y, was, torn). closing_torn false entry x (inside part d) 1 refl holds (subst (λ b. HasGate b x) c.if-is_closed.false gate) (subst (λ l. Torn 0 1 l (inside part d)) (durable y was) torn))
    (c.write_durably-else-is_closed.ensures.any_moment keeps)
