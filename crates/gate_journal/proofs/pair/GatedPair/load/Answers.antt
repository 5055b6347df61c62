use Rattle.std.proofs.Common.{◌≡◌, inl, inr, ◌-◌, ◌<◌, ◌∙◌, List, ℕ, ap, subst, sym, arith}
use Rattle.disk_model.specs.Disk.{Only}
use Rattle.disk_model.specs.Part.{inside}
use Rattle.gate_journal.specs.Pair.{IsPayloadOf, slot_bytes}
use Rattle.gate_journal.specs.PairSlot.{IsHeadOf, entry_behind}
use Rattle.gate_journal.proofs.Loading.{IsOrdered, loaded}
use Rattle.gate_journal.proofs.Pairs.{range_bytes}
use Rattle.gate_journal.proofs.pair.GatedPair.load.Goals as goal
use Rattle.gate_journal.proofs.pair.GatedPair.load.Goals.{then-into-eq0, else-into-eq0}

pub returns-clause-settled : goal.returns-clause-settled
returns-clause-settled g c = λ keeps.
    let disk = g.D.Disk in
    let part = c.args.part in
    let is_pair = c.requires.pair in
    let first = c.in_ok-first.first in
    let second = c.in_ok-second.second in
    let into = c.next_of-into.result in
    let order = c.if-into-eq0.order in
    let reads1 = c.in_ok-first.ensures.reads keeps in
    let reads2 = c.in_ok-second.ensures.reads keeps in
    let reads3 = c.in_ok-payload.ensures.reads keeps in
    let gs = disk.gives c.sync.new.disk in
    let g1 = disk.gives c.read_head.new.disk in
    let g2 = disk.gives c.read_head-2.new.disk in
    let g3 = disk.gives c.read_newest.new.disk in
    let from1 : g3 ≡ g1 = reads3.same ∙ reads2.same in
    let is_first : IsHeadOf first (slot_bytes 0 (inside part g3)) =
    subst (λ (b : List ℕ). IsHeadOf first (slot_bytes 0 (inside part b))) (sym (from1 ∙ reads1.same))
    (subst (IsHeadOf first) (range_bytes part c.slot_part.result is_pair 0 (omega arith) c.slot_part.ensures.start c.slot_part.ensures.len gs) (c.in_ok-first.ensures.head keeps)) in
    let is_second : IsHeadOf second (slot_bytes 1 (inside part g3)) =
    subst (λ (b : List ℕ). IsHeadOf second (slot_bytes 1 (inside part b))) (sym from1)
    (subst (IsHeadOf second) (range_bytes part c.slot_part-2.result is_pair 1 (omega arith) c.slot_part-2.ensures.start c.slot_part-2.ensures.len g1) (c.in_ok-second.ensures.head keeps)) in
    let whole : Only g3 (disk.may_leave_now c.read_newest.new.disk) = λ b left.
    c.in_ok-sync.ensures.durable keeps b (reads1.leaves b (reads2.leaves b (reads3.leaves b left))) ∙ sym (from1 ∙ reads1.same ∙ c.sync.ensures.gives keeps) in
    let below : 1 - into < 2 = omega arith in
    let payload = subst (λ (b : List ℕ). IsPayloadOf (entry_behind order.0.entry b) c.in_ok-payload.payload)
    (range_bytes part c.slot_part-3.result is_pair (1 - into) below c.slot_part-3.ensures.start c.slot_part-3.ensures.len g2 ∙ ap (λ (b : List ℕ). slot_bytes (1 - into) (inside part b)) (sym reads3.same))
    (c.in_ok-payload.ensures.payload keeps) in
    let ordered : IsOrdered into first second order = elim c.if-into-eq0.branch [
      | then-into-eq0 w ↦ inl (w.if-into-eq0.true, w.order-is)
      | else-into-eq0 w ↦ inr (omega (arith, w.if-into-eq0.false, c.next_of-into.ensures.within), w.order-is)
    ] in
    loaded part first second c.number_of.result g3 (disk.may_leave_now c.read_newest.new.disk) c.in_ok-payload.payload is_first is_second whole into order ordered
    (c.next_of-into.ensures.next (slot_bytes 0 (inside part g3)) (slot_bytes 1 (inside part g3))) c.number_of.ensures.number payload
