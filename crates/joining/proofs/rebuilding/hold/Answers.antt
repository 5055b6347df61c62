use Rattle.std.proofs.Common.{◌∙◌, sym}
use Rattle.joining.proofs.Putting.{none_of}
use Rattle.joining.proofs.QuietSteps.{held_done, order_held}
use Rattle.joining.proofs.Steady.{if_none}
use Rattle.joining.proofs.rebuilding.hold.Goals as goal

pub returns-clause-steady : goal.returns-clause-steady
returns-clause-steady g c = (order_held g.S.StoreLike.keeps c.args.management.now c.hold.new.self c.args.world.now c.hold.new.world c.hold.result c.hold.ensures.held (λ none. (if_none _ c.hold.result c.hold.ensures.idle none).1.1) c.requires.quiet).0

pub returns-clause-keep : goal.returns-clause-keep
returns-clause-keep g c = (order_held g.S.StoreLike.keeps c.args.management.now c.hold.new.self c.args.world.now c.hold.new.world c.hold.result c.hold.ensures.held (λ none. (if_none _ c.hold.result c.hold.ensures.idle none).1.1) c.requires.quiet).1

pub returns-clause-held : goal.returns-clause-held
returns-clause-held g c = λ some. held_done g.S.StoreLike.keeps c.args.management.now c.hold.new.self c.args.world.now c.hold.new.world c.hold.result c.hold.ensures.held (sym c.is_some.ensures ∙ some)

pub returns-clause-idle : goal.returns-clause-idle
returns-clause-idle g c = λ none. if_none _ c.hold.result c.hold.ensures.idle (none_of c.hold.result (sym c.is_some.ensures ∙ none))
