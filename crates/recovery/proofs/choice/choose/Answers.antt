use Rattle.std.proofs.Common.{List, refl, subst}
use Rattle.configurations.specs.declared.member.Member.{Member}
use Rattle.recovery.specs.Choice.{IsSource, NoneRecorded}
use Rattle.recovery.proofs.Choosing.{best_is_source, none_best, some_returned}
use Rattle.recovery.proofs.choice.choose.Goals as goal

pub returns-in-Some-clause-source : goal.returns-in-Some-clause-source
returns-in-Some-clause-source c =
    subst (λ (chain : List Member). IsSource chain c.args.returned.now c.in-Some.best.place) c.members.ensures.members
    (best_is_source c.members.result.now c.args.returned.now c.in-Some.best c.in-Some.ensures)

pub returns-in-None-clause-strangers : goal.returns-in-None-clause-strangers
returns-in-None-clause-strangers c =
    let none = subst (λ (chain : List Member). NoneRecorded chain c.args.returned.now) c.members.ensures.members (none_best c.members.result.now c.args.returned.now c.in-None.ensures) in
    (λ _. (some_returned c.args.returned.now c.if-is_empty.ensures, none), λ _. refl)
