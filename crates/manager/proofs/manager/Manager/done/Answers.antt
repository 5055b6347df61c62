use Rattle.std.proofs.Common.{◌≡◌, None, Option, true, false, ap, sym, ◌∙◌, subst}
use Rattle.std.specs.Prelude.{IsSome}
use Rattle.configurations.specs.Record.{Record}
use Rattle.manager.specs.Manager.{Keeps, state_of}
use Rattle.manager.specs.Orders.{first_of, is_record}
use Rattle.manager.proofs.Changes.{carried, settled, under_way}
use Rattle.manager.proofs.manager.Manager.done.Goals as goal

pub invariant_of-self-then-not-is_record : goal.invariant_of-self-then-not-is_record
invariant_of-self-then-not-is_record c =
    let m = c.self.inside in
    let st = state_of m.chain m.stopped m.joining m.coming m.begun m.left.items in
    let other : is_record c.in-Some.order ≡ false = cc in
    carried st c.in-Some.order c.pop_front.new.self.items c.in-Some.ensures.items m.coming c.self.invariant other

pub unwrap-requires : goal.unwrap-requires
unwrap-requires c =
    let m = c.self.inside in
    let st = state_of m.chain m.stopped m.joining m.coming m.begun m.left.items in
    let first : is_record c.in-Some.order ≡ true = cc in
    subst IsSome (sym c.take.ensures.value) (under_way st m.coming c.self.invariant (ap (λ orders. is_record (first_of orders)) c.in-Some.ensures.items ∙ first))

pub invariant_of-self-2 : goal.invariant_of-self-2
invariant_of-self-2 c =
    let m = c.self.inside in
    let first : is_record c.in-Some.order ≡ true = cc in
    let rest = c.pop_front.new.self.items in
    subst (λ (coming : Option Record). Keeps (state_of c.unwrap.result m.stopped None coming false rest) coming) (sym c.take.ensures.after)
    (settled m.chain m.stopped m.joining m.coming m.begun m.left.items c.in-Some.order rest c.unwrap.result (sym c.take.ensures.value ∙ c.unwrap.ensures) c.self.invariant c.in-Some.ensures.items first)
