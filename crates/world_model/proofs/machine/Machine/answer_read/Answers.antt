use Rattle.std.proofs.Common.{◌+◌, length, sym, ◌∙◌, ap, arith}
use Rattle.world_model.specs.Views.{range_asked}
use Rattle.world_model.specs.Machine.{AnswerRead, Asked, IsRead, Move, State, after}
use Rattle.world_model.proofs.StepLemmas.{is_read, it_waits, its_name, same_state, same_waiting, tried_idle, tried_named}
use Rattle.world_model.proofs.machine.Machine.answer_read.Goals as goal

pub returns-in_default-clause-step : goal.returns-in_default-clause-step
returns-in_default-clause-step c =
    let step : Asked → Move = λ asked. AnswerRead asked c.args.front in
    let same_sent = c.deref.ensures.value ∙ ap (λ (s : State). s.sent) c.self.view_is in
    let same_names = c.deref-2.ensures.value ∙ ap (λ (s : State). s.waiting) c.self.view_is in
    tried_idle c.args.self.now c.args.name step c.deref.result.now c.deref-2.result.now same_sent same_names (λ asked may. may.0.1) c.in_default.ensures.none

pub returns-clause-step : goal.returns-clause-step
returns-clause-step c =
    let s : State = c.args.self.now in
    let step : Asked → Move = λ asked. AnswerRead asked c.args.front in
    let asked : Asked = c.in-Some.asked.now in
    let same_sent = c.deref.ensures.value ∙ ap (λ (s : State). s.sent) c.self.view_is in
    let same_names = c.deref-2.ensures.value ∙ ap (λ (s : State). s.waiting) c.self.view_is in
    let found = c.in-Some.ensures.some in
    let waits = c.in-Some.ensures.waits in
    let name = its_name s c.args.name step c.deref.result.now c.deref-2.result.now same_sent same_names asked found waits in
    let read : IsRead asked.request = is_read asked.request (c.in-Some-range.offset, c.in-Some-range.len) (ap range_asked (sym c.request.ensures) ∙ sym c.in-Some-range.ensures) in
    tried_named s c.args.name step c.deref.result.now c.deref-2.result.now same_sent same_names asked found waits _ (
      it_waits s c.args.name step c.deref.result.now c.deref-2.result.now same_sent same_names asked found waits,
      read,
      omega (arith, c.mark.ensures, c.if-front-mark.false),
      omega (arith, c.len.ensures, c.if-front-len.false, ap (λ (s : State). length s.taken) c.self.view_is),
    )
    (same_state _ (after s (step asked)) (ap (λ (s : State). s.taken) c.self.view_is)
    (ap (λ (s : State). s.owed) c.self.view_is)
    (ap (λ (s : State). s.sent) c.self.view_is)
    (c.stop_waiting.ensures ∙ same_waiting _ _ _ _ (ap (λ (s : State). s.waiting) c.self.view_is) (sym name))
    (ap (λ (s : State). s.events + 1) c.self.view_is))
