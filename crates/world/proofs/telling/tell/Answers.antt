use Rattle.std.proofs.Common.{◌++◌, ap, ◌∙◌}
use Rattle.world.proofs.TellingSteps.{told_out}
use Rattle.world.proofs.telling.tell.Goals as goal

pub returns-in_default : goal.returns-in_default
returns-in_default c = record { lost = c.tell_all.result; events = c.tell_all.ensures.0; comes = c.tell_all.ensures.1; loss = tt }

pub returns : goal.returns
returns c =
    let all = c.tell_all_out-lost.ensures.told in
    told_out c.told_with.result c.tell_all_out-lost.result c.args.replies.items c.args.clients.now c.tell_all_out-lost.new.clients all.0 all.1
    c.told_with.ensures.room (c.told_with.ensures.outputs ∙ all.2.1 ∙ ap (λ l. l ++ all.0) c.in-Ok.ensures.items) c.told_with.ensures.loss all.2.0
