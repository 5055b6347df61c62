use Rattle.std.proofs.Common.{◌≡◌, ◌+◌, ◌++◌, ◌∷◌, [], ℕ, List, ap, subst, sym, ◌∙◌}
use Rattle.configurations.specs.declared.member.Member.{Member}
use Rattle.configurations.specs.Record.{AreMembers}
use Rattle.manager.specs.Manager.{IsNext, State, has_slot, state_of}
use Rattle.manager.specs.Orders.{joined, joining_orders}
use Rattle.manager.proofs.Changes.{joins}
use Rattle.manager.proofs.manager.Manager.join.Goals as goal

pub invariant_of-self : goal.invariant_of-self
invariant_of-self c =
    let m = c.self.inside in
    let st = state_of m.chain m.stopped m.joining m.coming m.begun m.left.items in
    let change = c.in_ok-slot.field-0 in
    let value = rw c.unwrap.ensures at c.new-2.ensures.value in
    let epoch : change.epoch ≡ m.chain.epoch + 1 = c.in_ok-slot.ensures.next.one_more ∙ ap (λ (s : State). s.chain.epoch + 1) (sym c.self.view_is) in
    let given = rw c.unwrap-incarnation.ensures at c.new.ensures.value in
    let incarnation : c.unwrap-incarnation.result ≡ m.chain.epoch + 1 = given ∙ c.number.ensures.number ∙ epoch in
    let whole : c.members.result.now ++ record { slot = change.slot; incarnation = c.unwrap-incarnation.result } ∷ [] ≡ joined change.slot m.chain =
    ap (λ (ms : List Member). ms ++ record { slot = change.slot; incarnation = c.unwrap-incarnation.result } ∷ []) c.members.ensures.members
    ∙ ap (λ (n : ℕ). m.chain.members ++ record { slot = change.slot; incarnation = n } ∷ []) incarnation in
    joins st _ change.slot change.epoch c.in_ok-members.members.items c.unwrap.result c.in_ok-left.left.items
    value
    (subst (λ (s : State). IsNext s change.epoch) (sym c.self.view_is) c.in_ok-slot.ensures.next)
    (c.in_ok-members.ensures ∙ whole)
    (subst (λ (s : State). AreMembers (joined change.slot s.chain)) (sym c.self.view_is) (subst (λ (slot : ℕ). AreMembers (joined slot c.args.self.now.chain)) (sym c.in_ok-slot.ensures.slot) c.in_ok-slot.ensures.room))
    (ap (λ (s : State). has_slot change.slot s.chain.members) c.self.view_is ∙ ap (λ (slot : ℕ). has_slot slot c.args.self.now.chain.members) c.in_ok-slot.ensures.slot ∙ c.in_ok-slot.ensures.free)
    (ap (λ (s : State). s.begun) c.self.view_is ∙ c.in_ok-slot.ensures.begun)
    (c.in_ok-left.ensures ∙ ap (joining_orders change.slot) c.deref.ensures.value)
