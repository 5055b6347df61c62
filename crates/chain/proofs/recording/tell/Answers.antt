use Rattle.std.proofs.Common.{◌∙◌, ap, sym, subst, arith}
use Rattle.std.specs.Prelude.{is_some}
use Rattle.chain_steps.specs.Node.{Out}
use Rattle.chain_steps.specs.Steps.{told}
use Rattle.chain_core.specs.Node.{IsDelivered, size_of}
use Rattle.chain.proofs.PassingSteps.{none_of, ok_of}
use Rattle.chain.proofs.RecordingSteps.{tells_inside, tells_room, tells_to}
use Rattle.chain.proofs.recording.tell.Goals as goal

pub send-requires : goal.send-requires
send-requires g c =
    let old = c.args.node.now in
    let ran = none_of old.state.stopped (ap is_some (sym c.stopped.ensures) ∙ sym c.if-is_some.ensures) in
    let few = tells_room c.args.chain old c.told.new.self _
    (subst (λ (o : Out). IsDelivered old c.told.new.self o (told c.args.chain old.state)) (sym c.messages.view_is) c.in_ok-messages.ensures.taken) ran c.args.to.now.items c.sound.ensures.behind in
    let room = ok_of c.reserve.result (sym c.is_err.ensures.value ∙ c.if-is_err.false) c.reserve.ensures.ok in
    omega (arith, few, room, c.applied.ensures, c.known.ensures)

pub returns-clause-told : goal.returns-clause-told
returns-clause-told g c =
    let old = c.args.node.now in
    let ran = none_of old.state.stopped (ap is_some (sym c.stopped.ensures) ∙ sym c.if-is_some.ensures) in
    rw (c.send.ensures, c.reserve.ensures.items) (tells_to c.args.chain old c.told.new.self _
    (subst (λ (o : Out). IsDelivered old c.told.new.self o (told c.args.chain old.state)) (sym c.messages.view_is) c.in_ok-messages.ensures.taken) ran c.args.to.now.items)

pub returns-clause-inside : goal.returns-clause-inside
returns-clause-inside g c = λ before.
    let old = c.args.node.now in
    let ran = none_of old.state.stopped (ap is_some (sym c.stopped.ensures) ∙ sym c.if-is_some.ensures) in
    rw (c.send.ensures, c.reserve.ensures.items) (tells_inside c.args.chain old c.told.new.self _
    (subst (λ (o : Out). IsDelivered old c.told.new.self o (told c.args.chain old.state)) (sym c.messages.view_is) c.in_ok-messages.ensures.taken) ran c.args.to.now.items (size_of (g.S.StoreLike.about old.store))
    c.sound.ensures.inside c.sound.ensures.some before)
