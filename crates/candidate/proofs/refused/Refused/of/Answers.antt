use Rattle.std.proofs.Common.{subst}
use Rattle.std.proofs.lemmas.Option.{same_Some}
use Rattle.configurations.specs.declared.member.Member.{Member}
use Rattle.joining.specs.Copying.{IsOf, MeansOnly}
use Rattle.candidate.proofs.refused.Refused.of.Goals as goal

pub invariant_of-result : goal.invariant_of-result
invariant_of-result g c = λ keeps member here. subst (λ (m : Member). MeansOnly g.D.Disk.may_leave_now (IsOf m) c.args.disk) (same_Some c.args.member member here) (c.requires keeps)
