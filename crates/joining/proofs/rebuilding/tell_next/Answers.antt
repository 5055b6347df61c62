use Rattle.joining.proofs.QuietSteps.{order_told}
use Rattle.joining.proofs.Steady.{if_none}
use Rattle.joining.proofs.rebuilding.tell_next.Goals as goal

pub returns-clause-steady : goal.returns-clause-steady
returns-clause-steady g c = (order_told g.S.StoreLike.keeps c.args.management.now c.tell.new.self c.args.world.now c.tell.new.world c.tell.result c.tell.ensures.told (λ none. (if_none _ c.tell.result c.tell.ensures.idle none).1.1) c.requires.quiet).0

pub returns-clause-keep : goal.returns-clause-keep
returns-clause-keep g c = (order_told g.S.StoreLike.keeps c.args.management.now c.tell.new.self c.args.world.now c.tell.new.world c.tell.result c.tell.ensures.told (λ none. (if_none _ c.tell.result c.tell.ensures.idle none).1.1) c.requires.quiet).1
