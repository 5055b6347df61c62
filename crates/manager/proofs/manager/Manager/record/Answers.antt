use Rattle.std.proofs.Common.{ap, sym, ◌∙◌}
use Rattle.manager.specs.Manager.{is_held, next_of, state_of}
use Rattle.manager.specs.Orders.{is_record}
use Rattle.manager.proofs.Changes.{not_none, record_first, under_way}
use Rattle.manager.proofs.manager.Manager.record.Goals as goal

pub returns-in_default-clause-value : goal.returns-in_default-clause-value
returns-in_default-clause-value c =
    let m = c.self.inside in
    let st = state_of m.chain m.stopped m.joining m.coming m.begun m.left.items in
    let next = ap is_record (ap next_of c.self.view_is ∙ sym c.next.ensures) ∙ sym c.is_record.ensures ∙ c.if-not-is_record.false in
    absurd (not_none m.coming (under_way st m.coming c.self.invariant (record_first (is_held st) st.left next)) c.in_default.is)
