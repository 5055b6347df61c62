use Rattle.std.proofs.Common.{length, ap, subst, sym, arith, ◌∙◌}
use Rattle.configurations.specs.Record.{AreMembers}
use Rattle.manager.specs.Manager.{IsManager, state_of}
use Rattle.manager.proofs.Changes.{orders_are}
use Rattle.manager.proofs.manager.managers_are.Goals as goal

pub returns : goal.returns
returns c =
    let m = c.manager.inside in
    let st = state_of m.chain m.stopped m.joining m.coming m.begun m.left.items in
    subst IsManager c.manager.view_is
    (record {
      epoch = omega (arith, c.epoch.ensures, c.number-epoch.ensures.number, c.number-epoch.ensures.within);
      members = subst AreMembers c.members-members.ensures.members c.members-members.ensures.are;
      stopped = sym (ap length c.each_slot-stopped.ensures.marks) ∙ c.each_slot-stopped.ensures.all;
      orders = orders_are st m.coming c.manager.invariant;
    })
