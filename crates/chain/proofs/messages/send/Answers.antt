use Rattle.std.proofs.Common.{◌≡◌, ◌+◌, ◌∷◌, ◌++◌, [], length, map, ap, sym, ◌∙◌, arith}
use Rattle.std.proofs.lemmas.List.{append-nil, append_assoc, nil_from_length}
use Rattle.chain_steps.specs.declared.message.Sent.{Sent}
use Rattle.chain.proofs.messages.send.Goals as goal

pub loop-sent-init : goal.loop-sent-init
loop-sent-init c = let given = c.into_iter-sent-iterator.ensures.into_iter_gives.0 in record {
  sent = ap (λ ms. c.args.to.now.items ++ map (λ (m : Sent). m.envelope) ms) given;
  room = rw given c.requires;
}

pub push_back_reserved-requires : goal.push_back_reserved-requires
push_back_reserved-requires c =
    let split = c.in-Some.ensures.steps.0 in
    let more : length c.loop-sent.sent-iterator.rest.items ≡ length c.next.new.self.rest.items + 1 = omega (arith, ap length split) in
    omega (arith, c.loop-sent.invariant.room, more)

pub loop-sent-preserved : goal.loop-sent-preserved
loop-sent-preserved c =
    let split = c.in-Some.ensures.steps.0 in
    let more : length c.loop-sent.sent-iterator.rest.items ≡ length c.next.new.self.rest.items + 1 = omega (arith, ap length split) in
    record {
      sent = ap (λ l. l ++ map (λ (m : Sent). m.envelope) c.next.new.self.rest.items) c.push_back_reserved.ensures.items
          ∙ append_assoc c.loop-sent.to.items (c.in-Some.sent.envelope ∷ []) (map (λ (m : Sent). m.envelope) c.next.new.self.rest.items)
          ∙ ap (λ ms. c.loop-sent.to.items ++ map (λ (m : Sent). m.envelope) ms) (sym split) ∙ c.loop-sent.invariant.sent;
      room = omega (arith, c.loop-sent.invariant.room, more, c.push_back_reserved.ensures.len);
    }

pub returns : goal.returns
returns c =
    let none : c.loop-sent.sent-iterator.rest.items ≡ [] = nil_from_length c.loop-sent.sent-iterator.rest.items (sym c.loop-sent.sent-iterator.rest.ok.0 ∙ c.in-None.ensures.steps.0) in
    sym (append-nil c.loop-sent.to.items) ∙ ap (λ ms. c.loop-sent.to.items ++ map (λ (m : Sent). m.envelope) ms) (sym none) ∙ c.loop-sent.invariant.sent
