use Rattle.std.proofs.lemmas.List.{nil_from_length}
use Rattle.std.proofs.Common.{Bool, arith, false, [], ◌++◌, None, ap, subst, sym, ◌∙◌}
use Rattle.std.specs.Prelude.{◌||◌}
use Rattle.world.specs.Telling.{AreTold}
use Rattle.world.proofs.TellingSteps.{or_none, or_then, told_before, told_none}
use Rattle.world.proofs.telling.tell_all.Goals as goal

pub loop-served-preserved : goal.loop-served-preserved
loop-served-preserved c = λ final more events told.
    let all = c.loop-served.invariant final (c.tell_one-one.result || more) (c.tell_one-one.ensures.0 ++ events)
    (told_before false c.tell_one-one.result more c.loop-served.served-iterator.rest.items c.next.new.self.rest.items c.reply.result c.in-Some.served c.loop-served.clients c.tell_one-one.new.clients final None [] c.tell_one-one.ensures.0 events
    c.in-Some.ensures.steps.0 c.reply.ensures c.tell_one-one.ensures.1 told) in
    (all.0, subst (λ (lost : Bool). AreTold false lost c.args.replies.items c.args.clients.now final [] all.0) (or_then c.loop-served.lost c.tell_one-one.result more ∙ ap (λ (b : Bool). b || more) (sym c.either-lost.ensures)) all.1)

pub returns : goal.returns
returns c =
    let all = c.loop-served.invariant c.loop-served.clients false [] (told_none false c.loop-served.served-iterator.rest.items c.loop-served.clients (nil_from_length c.loop-served.served-iterator.rest.items (omega (arith, c.in-None.ensures.steps.0)))) in
    (all.0, subst (λ (lost : Bool). AreTold false lost c.args.replies.items c.args.clients.now c.loop-served.clients [] all.0) (or_none c.loop-served.lost) all.1)
