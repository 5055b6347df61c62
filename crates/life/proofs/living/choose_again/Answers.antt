use Rattle.std.proofs.Common.{◌≡◌, ◌∙◌}
use Rattle.std.proofs.lemmas.Result.{IfOk-weaker}
use Rattle.disk_model.specs.Calm.{calm}
use Rattle.disk_model.specs.Memory.{given_of}
use Rattle.life.specs.Recovered.{IsStill}
use Rattle.life.proofs.Chosen.{all_still_then, calm_anew, chain_same, chosen_same, cut_all_still, no_choice, only_still, stands_same, still_all}
use Rattle.life.proofs.living.choose_again.Goals as goal

pub returns-then-is_ok-clause-back : goal.returns-then-is_ok-clause-back
returns-then-is_ok-clause-back c = still_all c.args.disks.items c.choose_among-choice.result.1.items c.requires.only c.choose_among-choice.ensures.back

pub returns-clause-chosen : goal.returns-clause-chosen
returns-clause-chosen c =
    let first = c.choose_among-choice in
    let still = cut_all_still c.args.cut c.args.disks.items first.result.1.items c.cut_again-disks.result.items (still_all c.args.disks.items first.result.1.items c.requires.only first.ensures.back) c.cut_again-disks.ensures in
    let same : given_of c.disarm.new.self ≡ given_of c.args.config.now = c.disarm.ensures.stays.given ∙ c.cut.ensures.gives ∙ c.requires.only_config _ (first.ensures.reads.leaves _ c.cut.ensures.left) in
    IfOk-weaker c.choose_among.result.0 _ _ (λ place (r, there, chosen). (
      r,
      stands_same c.args.config.now c.disarm.new.self r same there,
      chosen_same IsStill (λ was now is. is.1) c.args.returned.now c.args.disks.items c.cut_again-disks.result.items r place still chosen,
    )) c.choose_among.ensures.chosen

pub returns-clause-refused : goal.returns-clause-refused
returns-clause-refused c =
    let first = c.choose_among-choice in
    let still = cut_all_still c.args.cut c.args.disks.items first.result.1.items c.cut_again-disks.result.items (still_all c.args.disks.items first.result.1.items c.requires.only first.ensures.back) c.cut_again-disks.ensures in
    let same : given_of c.disarm.new.self ≡ given_of c.args.config.now = c.disarm.ensures.stays.given ∙ c.cut.ensures.gives ∙ c.requires.only_config _ (first.ensures.reads.leaves _ c.cut.ensures.left) in
    no_choice c.choose_among.result.0 c.args.returned.now c.args.disks.items c.cut_again-disks.result.items c.args.config.now c.disarm.new.self still same
    (c.choose_among.ensures.calm (chain_same c.args.config.now c.disarm.new.self same c.requires.chain) (calm_anew c.args.cut first.result.1.items c.cut_again-disks.result.items c.cut_again-disks.ensures)
    (calm c.disarm.new.self c.disarm.ensures.script (c.disarm.ensures.stays.stopped ∙ c.cut.ensures.runs)))
    c.choose_among.ensures.none c.choose_among.ensures.strangers

pub returns-clause-back : goal.returns-clause-back
returns-clause-back c =
    let first = c.choose_among-choice in
    let now = c.cut_again-disks.result.items in
    let still = cut_all_still c.args.cut c.args.disks.items first.result.1.items now (still_all c.args.disks.items first.result.1.items c.requires.only first.ensures.back) c.cut_again-disks.ensures in
    all_still_then c.args.disks.items now c.choose_among.result.1.items still (still_all now c.choose_among.result.1.items (only_still c.args.disks.items now still) c.choose_among.ensures.back)
