use Rattle.std.proofs.Common.{ap, sym, ◌∙◌}
use Rattle.manager.specs.Manager.{is_held, next_of, state_of}
use Rattle.manager.specs.Orders.{is_record}
use Rattle.manager.proofs.Changes.{begins, record_first}
use Rattle.manager.proofs.manager.Manager.begin.Goals as goal

pub invariant_of-self : goal.invariant_of-self
invariant_of-self c =
    let m = c.self.inside in
    let st = state_of m.chain m.stopped m.joining m.coming m.begun m.left.items in
    let next = ap is_record (ap next_of c.self.view_is ∙ sym c.next.ensures) ∙ sym c.is_record.ensures ∙ c.if-is_record.true in
    begins st m.coming c.self.invariant (record_first (is_held st) st.left next)
