use Rattle.std.proofs.Common.{arith, ap, sym, subst, ◌+◌, ◌∙◌, ◌≡◌, true, false, Some}
use Rattle.version_table.specs.Held.{applied_of}
use Rattle.chain_steps.specs.Node.{last_of}
use Rattle.chain_steps.specs.Place.{incarnation_in, is_head}
use Rattle.chain_steps.specs.Steps.{apply, is_full, origin_of}
use Rattle.chain_core.specs.Node.{IsDelivered, IsStepOrStop}
use Rattle.chain_core.proofs.Sound.{number_is}
use Rattle.chain_core.proofs.node.Node.number.Goals as goal

pub returns-clause-taken : goal.returns-clause-taken
returns-clause-taken g c =
    let node = c.args.self.now.state in
    let head : is_head node.place ≡ true = grind (arith, c.self.view_is, c.is_head.ensures, c.if-not-is_head.false) in
    let there : incarnation_in node.place.chain c.args.from ≡ Some c.in-Some.incarnation = grind (arith, c.self.view_is, c.incarnation_of.ensures, c.in-Some.is) in
    let room : is_full c.args.write.now node ≡ false = grind (arith, c.self.view_is, c.is_full.ensures, c.if-is_full.false) in
    let next : c.applied-next.result ≡ last_of node = c.applied-next.ensures ∙ ap (λ s. applied_of s.state.table) c.self.view_is in
    subst (IsDelivered c.args.self.now c.apply.new.self c.apply.result) (sym (number_is c.args.from c.args.ticket c.in-Some.incarnation c.args.write.now node head there room))
    (subst (λ n. IsStepOrStop c.args.self.now c.apply.new.self c.apply.result (apply (n + 1) (origin_of c.args.from c.in-Some.incarnation c.args.ticket) c.args.write.now node)) next
    (subst (λ slot. IsStepOrStop c.args.self.now c.apply.new.self c.apply.result (apply (c.applied-next.result + 1) (origin_of slot c.in-Some.incarnation c.args.ticket) c.args.write.now node)) c.number.ensures.number
    (subst (λ i. IsStepOrStop c.args.self.now c.apply.new.self c.apply.result (apply (c.applied-next.result + 1) (origin_of c.number.result i c.args.ticket) c.args.write.now node)) c.number-2.ensures.number c.apply.ensures.step)))
