use Rattle.std.proofs.Common.{◌≡◌, false, ◌++◌, ◌∷◌, [], refl, sym, ◌∙◌, ap, rules}
use Rattle.std.proofs.lemmas.Bool.{false≢true}
use Rattle.volume.specs.Writes.{Placed}
use Rattle.world_model.specs.Machine.{State, Taken}
use Rattle.world_model.proofs.StepLemmas.{same_state, tried_take, tried_take_not}
use Rattle.world_model.proofs.machine.Machine.take.Goals as goal

pub returns-then-not-is_untaken-clause-step : goal.returns-then-not-is_untaken-clause-step
returns-then-not-is_untaken-clause-step c =
    let same_sent = c.deref.ensures.value ∙ ap (λ (s : State). s.sent) c.self.view_is in
    let same_taken = c.deref-2.ensures.value ∙ ap (λ (s : State). s.taken) c.self.view_is in
    tried_take_not c.args.self.now c.args.name c.deref.result.now c.deref-2.result.now same_sent same_taken
    c.in-Some.asked.now c.request.result.now c.in-Some-written.write.now c.request.ensures (sym c.in-Some.ensures) (sym c.in-Some-written.ensures)
    (λ all. false≢true (c.if-not-is_untaken.ensures.1 all))

pub returns-clause-step : goal.returns-clause-step
returns-clause-step c =
    let same_sent = c.deref.ensures.value ∙ ap (λ (s : State). s.sent) c.self.view_is in
    let same_taken = c.deref-2.ensures.value ∙ ap (λ (s : State). s.taken) c.self.view_is in
    let same : c.in_ok-write.write ≡ c.in-Some-written.write.now = search rules in
    let with_write : Placed → Taken = λ w. record { name = c.args.name; write = w; answered = false } in
    tried_take c.args.self.now c.args.name c.deref.result.now c.deref-2.result.now same_sent same_taken
    c.in-Some.asked.now c.request.result.now c.in-Some-written.write.now c.request.ensures (sym c.in-Some.ensures) (sym c.in-Some-written.ensures)
    _ (c.if-not-is_untaken.ensures.0 refl)
    (same_state _ _ (c.in_ok-push.ensures.items ∙ ap (λ (x : Taken). c.self.inside.taken.items ++ x ∷ []) (c.new.ensures ∙ ap with_write same)
    ∙ ap (λ (s : State). s.taken ++ with_write c.in-Some-written.write.now ∷ []) c.self.view_is) (ap (λ (s : State). s.owed) c.self.view_is) (ap (λ (s : State). s.sent) c.self.view_is) (ap (λ (s : State). s.waiting) c.self.view_is) (ap (λ (s : State). s.events) c.self.view_is))
