use Rattle.std.proofs.Common.{◌∙◌, ap, sym}
use Rattle.mail.specs.Given.{flat}
use Rattle.cluster.proofs.Orders.{comes_up}
use Rattle.cluster.proofs.carried.Carried.of.Goals as goal

pub returns-in-Some-pop : goal.returns-in-Some-pop
returns-in-Some-pop c =
    comes_up (λ bundle. bundle.items) c.in-Some-pop.next c.in-Some.bundle.items c.reverse.new.self.items c.pop.new.self.items c.pop_front.new.self.items c.reverse.ensures.items c.in-Some-pop.ensures.items
    ∙ ap (flat (λ bundle. bundle.items)) (sym c.in-Some.ensures.items)
    ∙ c.loop-bundle.invariant
