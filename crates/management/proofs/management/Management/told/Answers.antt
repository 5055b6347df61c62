use Rattle.std.proofs.Common.{◌≡◌, true, ◌∙◌, ap, refl, subst, sym}
use Rattle.configurations.specs.Record.{Record}
use Rattle.manager.specs.Manager as managers
use Rattle.manager.specs.Manager.{has_slot}
use Rattle.manager.specs.Orders.{is_record}
use Rattle.manager.specs.declared.order.Order.TheVariants.{Tell}
use Rattle.management.proofs.Standing.{durable, durable_then, of_parts}
use Rattle.management.proofs.Turns.{chain_stays, told_of_chain}
use Rattle.management.proofs.management.Management.told.Goals as goal

pub returns-clause-member : goal.returns-clause-member
returns-clause-member g c =
    let st = c.self.inside.manager in
    let slot = c.in-Tell.slot in
    let same = ap (λ (s : managers.State). s.chain) c.done.ensures ∙ chain_stays st (ap is_record (sym c.in-Tell.ensures)) in
    subst (λ (r : Record). has_slot slot r.members ≡ true) (sym same) (told_of_chain st c.managers_are.ensures slot (sym c.in-Tell.ensures))

pub returns-clause-durable : goal.returns-clause-durable
returns-clause-durable g c = λ keeps.
    let st = c.self.inside.manager in
    let seen = of_parts c.self.inside.config c.self.inside.disk st c.self.inside.seat in
    durable_then c.self.inside.config c.self.inside.disk st c.done.new.self c.self.inside.seat c.self.inside.seat
    (durable seen seen refl c.self.invariant (Tell c.in-Tell.slot) (sym c.in-Tell.ensures) refl keeps)
    (ap (λ (s : managers.State). s.chain) c.done.ensures ∙ chain_stays st (ap is_record (sym c.in-Tell.ensures)))
