use Rattle.std.proofs.Common.{◌∙◌, refl, ap, sym, subst, arith}
use Rattle.std.specs.Prelude.{is_some}
use Rattle.std.proofs.lemmas.Option.{slice_get_read}
use Rattle.chain_steps.specs.Node.{Out}
use Rattle.chain_steps.specs.Steps.{deliver, stop}
use Rattle.chain_steps.specs.declared.cause.Cause.TheVariants as causes
use Rattle.chain_steps.specs.declared.message.Envelope.{Envelope}
use Rattle.chain_core.specs.Node.{IsDelivered, IsInside, IsStep, size_of}
use Rattle.chain.proofs.PassingSteps.{halted, none_of, ok_of, passed, ran_out, room_for, sends_inside}
use Rattle.chain.proofs.Stepping.{all_at}
use Rattle.chain.proofs.messages.pass.Goals as goal

pub returns-then-is_err-clause-some : goal.returns-then-is_err-clause-some
returns-then-is_err-clause-some g c =
    let old = c.args.node.now in
    let link = c.args.link.now in
    let ran = none_of old.state.stopped (ap is_some (sym c.stopped.ensures) ∙ sym c.if-is_some.ensures) in
    let here = slice_get_read link.items link.len 0 c.in-Some.envelope.now link.ok.0 (c.in-Some.ensures.variant.0 refl) c.in-Some.ensures.lookup in
    rw c.reserve.ensures.items (ran_out c.args.from old c.stop_by.new.self _ link.items c.in-Some.envelope.now ran here
    (subst (λ (o : Out). IsStep old c.stop_by.new.self o (stop causes.Memory old.state)) (sym c.result.view_is) c.stop_by.ensures.step) c.args.to.now.items)

pub returns-then-is_some-2-clause-some : goal.returns-then-is_some-2-clause-some
returns-then-is_some-2-clause-some g c =
    let old = c.args.node.now in
    let link = c.args.link.now in
    let ran = none_of old.state.stopped (ap is_some (sym c.stopped.ensures) ∙ sym c.if-is_some.ensures) in
    let here = slice_get_read link.items link.len 0 c.in-Some.envelope.now link.ok.0 (c.in-Some.ensures.variant.0 refl) c.in-Some.ensures.lookup in
    rw c.reserve.ensures.items (halted c.args.from old c.deliver.new.self _ link.items c.in-Some.envelope.now ran here
    (subst (λ (o : Out). IsDelivered old c.deliver.new.self o (deliver c.args.from c.in-Some.envelope.now old.state)) (sym c.messages.view_is) c.in_ok-messages.ensures.taken)
    (ap is_some (sym c.stopped-2.ensures) ∙ sym c.is_some-2.ensures ∙ c.if-is_some-2.true) c.args.to.now.items)

pub send-requires : goal.send-requires
send-requires g c =
    let old = c.args.node.now in
    let link = c.args.link.now in
    let ran = none_of old.state.stopped (ap is_some (sym c.stopped.ensures) ∙ sym c.if-is_some.ensures) in
    let here = slice_get_read link.items link.len 0 c.in-Some.envelope.now link.ok.0 (c.in-Some.ensures.variant.0 refl) c.in-Some.ensures.lookup in
    let few = room_for c.args.from old c.deliver.new.self _ link.items c.in-Some.envelope.now ran here c.sound.ensures.behind
    (subst (λ (o : Out). IsDelivered old c.deliver.new.self o (deliver c.args.from c.in-Some.envelope.now old.state)) (sym c.messages.view_is) c.in_ok-messages.ensures.taken) in
    let room = ok_of c.reserve.result (sym c.is_err.ensures.value ∙ c.if-is_err.false) c.reserve.ensures.ok in
    omega (arith, few, room, c.most.ensures)

pub returns-clause-some : goal.returns-clause-some
returns-clause-some g c =
    let old = c.args.node.now in
    let link = c.args.link.now in
    let ran = none_of old.state.stopped (ap is_some (sym c.stopped.ensures) ∙ sym c.if-is_some.ensures) in
    let here = slice_get_read link.items link.len 0 c.in-Some.envelope.now link.ok.0 (c.in-Some.ensures.variant.0 refl) c.in-Some.ensures.lookup in
    rw (c.leave.ensures, c.send.ensures, c.reserve.ensures.items) (passed c.args.from old c.deliver.new.self _ link.items c.in-Some.envelope.now ran here
    (subst (λ (o : Out). IsDelivered old c.deliver.new.self o (deliver c.args.from c.in-Some.envelope.now old.state)) (sym c.messages.view_is) c.in_ok-messages.ensures.taken)
    (ap is_some (sym c.stopped-2.ensures) ∙ sym c.is_some-2.ensures ∙ c.if-is_some-2.false) c.args.to.now.items)

pub returns-clause-inside : goal.returns-clause-inside
returns-clause-inside g c =
    let old = c.args.node.now in
    let link = c.args.link.now in
    let size = size_of (g.S.StoreLike.about old.store) in
    let ran = none_of old.state.stopped (ap is_some (sym c.stopped.ensures) ∙ sym c.if-is_some.ensures) in
    let here = slice_get_read link.items link.len 0 c.in-Some.envelope.now link.ok.0 (c.in-Some.ensures.variant.0 refl) c.in-Some.ensures.lookup in
    λ before. rw (c.send.ensures, c.reserve.ensures.items) (sends_inside c.args.from old c.deliver.new.self _ link.items c.in-Some.envelope.now ran here size c.sound.ensures.inside c.sound.ensures.some
    (all_at (λ (e : Envelope). IsInside size e.message) link.items 0 c.in-Some.envelope.now here c.requires)
    (subst (λ (o : Out). IsDelivered old c.deliver.new.self o (deliver c.args.from c.in-Some.envelope.now old.state)) (sym c.messages.view_is) c.in_ok-messages.ensures.taken) c.args.to.now.items before)
