use Rattle.std.proofs.Common.{refl, subst, sym}
use Rattle.manager.specs.declared.order.Order.TheVariants.{CountOut}
use Rattle.management.specs.Management.{Managing}
use Rattle.management.specs.Orders.{CountsOut}
use Rattle.management.proofs.Standing.{of_parts, durable}
use Rattle.management.proofs.Turns.{out_of_chain}
use Rattle.management.proofs.management.Management.count_out.Goals as goal

pub returns-clause-out : goal.returns-clause-out
returns-clause-out g c = λ done.
    subst (λ (m : Managing g.row.C.Denot). CountsOut m (of_parts c.self.inside.config c.self.inside.disk c.done.new.self c.count_out.new.seat)) c.self.view_is (record {
      slot = c.in-CountOut.slot;
      due = sym c.in-CountOut.ensures;
      left_out = out_of_chain c.self.inside.manager c.managers_are.ensures c.in-CountOut.slot (sym c.in-CountOut.ensures);
      are = cc (c.done.ensures, c.count_out.ensures.step);
    })

pub returns-clause-durable : goal.returns-clause-durable
returns-clause-durable g c = λ keeps done. durable _ _ c.self.view_is c.self.invariant (CountOut c.in-CountOut.slot) (sym c.in-CountOut.ensures) refl keeps
