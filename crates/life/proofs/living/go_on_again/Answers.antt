use Rattle.std.proofs.Common.{◌≡◌, inl, inr, subst, ◌∙◌}
use Rattle.std.specs.Prelude.{IfSome}
use Rattle.disk_model.specs.Calm.{calm}
use Rattle.disk_model.specs.Memory.{size_of}
use Rattle.life.specs.Begun.{MeansStill}
use Rattle.life.proofs.Again.{IsCutAgain, ended_again, recovers_again, returns_again, strange_again}
use Rattle.life.proofs.living.go_on_again.Goals as goal

pub returns-in-Ok-go_on_alone-clause-goes_on : goal.returns-in-Ok-go_on_alone-clause-goes_on
returns-in-Ok-go_on_alone-clause-goes_on c =
    let still = subst (λ o. IfSome o (MeansStill c.args.disk)) c.in-Some.is c.in-Err.ensures.again in
    let size = subst (λ o. IfSome o (λ back. size_of back ≡ size_of c.args.disk)) c.in-Some.is c.in-Err.ensures.size in
    let is : IsCutAgain c.in-Some.disk c.cut.new.self c.disarm.new.self = record { left = c.cut.ensures.left; gives = c.cut.ensures.gives; same = c.disarm.ensures.stays.given; size = c.cut.ensures.size } in
    let is_config : IsCutAgain c.in-Err.alone.config c.cut-2.new.self c.disarm-2.new.self = record { left = c.cut-2.ensures.left; gives = c.cut-2.ensures.gives; same = c.disarm-2.ensures.stays.given; size = c.cut-2.ensures.size } in
    recovers_again c.args.disk c.in-Some.disk c.cut.new.self c.disarm.new.self c.args.config c.in-Err.alone.config c.cut-2.new.self c.disarm-2.new.self c.requires.returns c.requires.only c.requires.only_config
    still c.in-Err.ensures.records is is_config size c.in-Err.ensures.config_size c.disks_mean_one.ensures c.records_are_one.ensures c.numbers_are_one.ensures c.in-Ok-go_on_alone.managed c.in-Ok-go_on_alone.ensures.next c.in-Ok-go_on_alone.ensures.goes_on

pub returns-in-Err-go_on_alone-clause-refused : goal.returns-in-Err-go_on_alone-clause-refused
returns-in-Err-go_on_alone-clause-refused c =
    let still = subst (λ o. IfSome o (MeansStill c.args.disk)) c.in-Some.is c.in-Err.ensures.again in
    let size = subst (λ o. IfSome o (λ back. size_of back ≡ size_of c.args.disk)) c.in-Some.is c.in-Err.ensures.size in
    let is : IsCutAgain c.in-Some.disk c.cut.new.self c.disarm.new.self = record { left = c.cut.ensures.left; gives = c.cut.ensures.gives; same = c.disarm.ensures.stays.given; size = c.cut.ensures.size } in
    let is_config : IsCutAgain c.in-Err.alone.config c.cut-2.new.self c.disarm-2.new.self = record { left = c.cut-2.ensures.left; gives = c.cut-2.ensures.gives; same = c.disarm-2.ensures.stays.given; size = c.cut-2.ensures.size } in
    let again = returns_again c.args.disk c.in-Some.disk c.cut.new.self c.disarm.new.self c.args.config c.in-Err.alone.config c.cut-2.new.self c.disarm-2.new.self c.requires.returns c.requires.only c.requires.only_config
    still c.in-Err.ensures.records is is_config size c.in-Err.ensures.config_size c.disks_mean_one.ensures c.records_are_one.ensures c.numbers_are_one.ensures in
    elim (c.in-Err-go_on_alone.ensures.calm again (calm c.disarm.new.self c.disarm.ensures.script (c.disarm.ensures.stays.stopped ∙ c.cut.ensures.runs))
    (calm c.disarm-2.new.self c.disarm-2.ensures.script (c.disarm-2.ensures.stays.stopped ∙ c.cut-2.ensures.runs))) [
      | inl memory ↦ inl memory
      | inr (inl not) ↦ inr (inl (
        not,
        strange_again c.args.disk c.in-Some.disk c.cut.new.self c.disarm.new.self c.args.config c.in-Err.alone.config c.cut-2.new.self c.disarm-2.new.self c.requires.returns c.requires.only c.requires.only_config
            still c.in-Err.ensures.records is is_config size c.in-Err.ensures.config_size c.disks_mean_one.ensures c.records_are_one.ensures c.numbers_are_one.ensures (c.in-Err-go_on_alone.ensures.strangers not).0,
      ))
      | inr (inr none) ↦ inr (inr (
        none,
        ended_again c.args.disk c.in-Some.disk c.cut.new.self c.disarm.new.self c.args.config c.in-Err.alone.config c.cut-2.new.self c.disarm-2.new.self c.requires.returns c.requires.only c.requires.only_config
            still c.in-Err.ensures.records is is_config size c.in-Err.ensures.config_size c.disks_mean_one.ensures c.records_are_one.ensures c.numbers_are_one.ensures (c.in-Err-go_on_alone.ensures.last none),
      ))
    ]
