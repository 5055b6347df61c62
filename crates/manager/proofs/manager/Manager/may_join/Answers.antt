use Rattle.std.specs.Prelude.{All, IfNone, is_some}
use Rattle.std.proofs.Common.{◌≡◌, ◌<◌, ℕ, List, Option, Some, None, false, ap, arith, subst, sym, ◌∙◌}
use Rattle.std.proofs.lemmas.Grind.{common_steps}
use Rattle.configurations.specs.declared.member.Member.{Member}
use Rattle.configurations.specs.Record.{AreMembers}
use Rattle.manager.specs.Manager.{State, has_slot}
use Rattle.manager.specs.Orders.{joined}
use Rattle.manager.proofs.Members.{joined_are}
use Rattle.manager.proofs.manager.Manager.may_join.Goals as goal

-- what holds where there is none
none_tells : (o : Option ℕ) (P : Type 0) → is_some o ≡ false → IfNone o P → P
none_tells None P none p = p
none_tells (Some x) P none p = cc

pub returns-clause-room : goal.returns-clause-room
returns-clause-room c =
    let chain = c.self.inside.chain in
    let members = c.members.ensures.members in
    let missing : is_some c.slot_among.result ≡ false = cc in
    let below : c.args.number < 8 = grind (arith, common_steps) in
    let none = none_tells c.slot_among.result (All (λ (m : Member). m.slot < 8) c.members.result.now) missing c.slot_among.ensures.slots in
    subst (λ (st : State). AreMembers (joined c.args.number st.chain)) c.self.view_is
    (joined_are c.args.number chain (subst AreMembers members c.members.ensures.are) (subst (λ (ms : List Member). All (λ (m : Member). m.slot < 8) ms) members none) below
    (sym (ap (has_slot c.args.number) members) ∙ sym c.slot_among.ensures.found ∙ missing))
