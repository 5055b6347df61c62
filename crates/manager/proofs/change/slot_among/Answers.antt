use Rattle.std.proofs.Common.{◌<◌, arith, subst}
use Rattle.std.proofs.lemmas.Grind.{common_steps}
use Rattle.std.proofs.lemmas.List.Elements.{All-more}
use Rattle.std.proofs.lemmas.List.Folds.{list_any_more}
use Rattle.std.specs.Prelude.{◌==◌}
use Rattle.configurations.specs.declared.member.Member.{Member}
use Rattle.manager.proofs.change.slot_among.Goals as goal

pub loop-member-preserved : goal.loop-member-preserved
loop-member-preserved c =
    let here = c.member-item.result in
    let more = list_any_more (λ (m : Member). m.slot == c.args.number) c.args.members.now c.loop-member.member-index here c.loop-member-test.true in
    record {
      none = grind (arith, common_steps, more);
      slots = All-more (λ (m : Member). m.slot < 8) c.args.members.now c.loop-member.member-index here c.loop-member-test.true c.loop-member.invariant.slots
          (subst (λ (m : Member). m.slot < 8) c.member-item.is (omega arith));
    }
