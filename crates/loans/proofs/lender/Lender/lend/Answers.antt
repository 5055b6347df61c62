use Rattle.std.proofs.Common.{◌∙◌, ◌∷◌, ◌++◌, ◌≡◌, ◌≤◌, [], Some, ap, arith, length, sym}
use Rattle.std.specs.Prelude.{map}
use Rattle.std.proofs.lemmas.List.{length-append, map-append}
use Rattle.rtrb.specs.Ring.{known_items, received, sent}
use Rattle.loans.specs.Sides.{last_of}
use Rattle.loans.proofs.Lasts.{ends_with, just_one, one_side}
use Rattle.loans.proofs.lender.Lender.lend.Goals as goal

pub returns-clause-lent : goal.returns-clause-lent
returns-clause-lent g c =
    let before = sent c.slots_beside-3.new.self in
    ap (map (λ entry. entry.loan.value)) (c.slots_beside-4.ensures.producer.1 ∙ c.push_reserved.ensures.sent.0)
    ∙ map-append (λ entry. entry.loan.value) before _
    ∙ ap (λ loan. map (λ entry. entry.loan.value) before ++ loan ∷ []) c.of.ensures
    ∙ ap (λ entries. map (λ entry. entry.loan.value) entries ++ c.args.loan.now ∷ []) (c.slots_beside-3.ensures.looked.1 ∙ c.slots_beside-2.ensures.producer.1 ∙ c.slots_beside.ensures.looked.1)
    ∙ ap (λ side. side.loans ++ c.args.loan.now ∷ []) c.self.view_is

pub returns-clause-last : goal.returns-clause-last
returns-clause-last g c =
    let before = sent c.slots_beside-3.new.self in
    ap (λ loans. last_of (map (λ entry. entry.loan.value) loans)) (c.slots_beside-4.ensures.producer.1 ∙ c.push_reserved.ensures.sent.0)
    ∙ ap last_of (map-append (λ entry. entry.loan.value) before _)
    ∙ ends_with (map (λ entry. entry.loan.value) before) _
    ∙ ap Some c.of.ensures

pub returns-clause-agree : goal.returns-clause-agree
returns-clause-agree g c =
    let before = received c.slots_beside-4.new.self in
    let known = known_items c.slots_beside-4.new.self in
    let put = c.slots_beside-4.ensures.fifo ∙ (c.slots_beside-4.ensures.producer.1 ∙ c.push_reserved.ensures.sent.0) in
    let one : length known ≤ 1 = omega (arith, ap length put, length-append before known, length-append (sent c.slots_beside-3.new.self) (record { loan = c.of.result } ∷ []), ap length c.slots_beside-4.ensures.looked.1, c.slots_beside-3.ensures.all_free, c.slots_beside-3.ensures.value, c.push_reserved.ensures.sent.1) in
    let alone = just_one known (known_items c.pop_known-2.new.self) c.pop_known-2.result c.pop_known-2.ensures.received.1 one in
    let same = c.pop_known-2.ensures.received.0 ∙ ap (λ more. before ++ more) (sym alone) ∙ c.slots_beside-4.ensures.fifo in
    let kept : c.if-slots_beside-gt0.borrower-inside.number ≡ c.borrower.inside.number = grind (arith, c.if-slots_beside-gt0.branch) in
    let numbers = kept ∙ ap (λ side. side.number) c.borrower.view_is ∙ c.requires ∙ sym (ap (λ side. side.number) c.self.view_is) in
    one_side c.if-slots_beside-gt0.borrower-inside.number c.self.inside.number _ _ numbers (ap (map (λ entry. entry.loan.value)) same)
