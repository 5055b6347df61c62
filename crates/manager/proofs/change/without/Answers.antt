use Rattle.std.proofs.Common.{◌≡◌, sym, subst, ap, arith, take, ◌∙◌}
use Rattle.std.proofs.lemmas.Grind.{common_steps}
use Rattle.configurations.specs.Record.{AreMembers}
use Rattle.manager.specs.Manager.{has_slot}
use Rattle.manager.specs.Orders.{without}
use Rattle.manager.proofs.Members.{without_are, without_out}
use Rattle.manager.proofs.change.without.Goals as goal

pub returns-clause-chain : goal.returns-clause-chain
returns-clause-chain c =
    let whole : take c.loop-member.member-index c.args.members.now ≡ c.args.members.now = grind (arith, common_steps) in
    subst AreMembers (sym (c.loop-member.invariant ∙ ap (without c.args.slot) whole)) (without_are c.args.slot c.args.members.now c.requires.chain c.requires.others)

pub returns-clause-out : goal.returns-clause-out
returns-clause-out c =
    let whole : take c.loop-member.member-index c.args.members.now ≡ c.args.members.now = grind (arith, common_steps) in
    ap (has_slot c.args.slot) (c.loop-member.invariant ∙ ap (without c.args.slot) whole) ∙ without_out c.args.slot c.args.members.now
