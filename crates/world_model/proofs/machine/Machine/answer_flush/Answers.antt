use Rattle.std.proofs.Common.{◌+◌, max, refl, sym, ◌∙◌, ap, subst}
use Rattle.world_model.specs.Event.{Request}
use Rattle.world_model.specs.Machine.{AnswerFlush, Asked, IsFlush, Move, State, after}
use Rattle.world_model.proofs.StepLemmas.{it_waits, its_name, same_state, same_waiting, tried_idle, tried_named}
use Rattle.world_model.proofs.machine.Machine.answer_flush.Goals as goal

pub returns-in_default : goal.returns-in_default
returns-in_default c =
    let step : Asked → Move = λ asked. AnswerFlush asked in
    let same_sent = c.deref.ensures.value ∙ ap (λ (s : State). s.sent) c.self.view_is in
    let same_names = c.deref-2.ensures.value ∙ ap (λ (s : State). s.waiting) c.self.view_is in
    tried_idle c.args.self.now c.args.name step c.deref.result.now c.deref-2.result.now same_sent same_names (λ asked may. may.0.1) c.in_default.ensures.none

pub returns : goal.returns
returns c =
    let s : State = c.args.self.now in
    let step : Asked → Move = λ asked. AnswerFlush asked in
    let asked : Asked = c.in-Some.asked.now in
    let same_sent = c.deref.ensures.value ∙ ap (λ (s : State). s.sent) c.self.view_is in
    let same_names = c.deref-2.ensures.value ∙ ap (λ (s : State). s.waiting) c.self.view_is in
    let found = c.in-Some.ensures.some in
    let waits = c.in-Some.ensures.waits in
    let name = its_name s c.args.name step c.deref.result.now c.deref-2.result.now same_sent same_names asked found waits in
    let flush : IsFlush asked.request = subst (λ (r : Request). IsFlush r) c.request.ensures (c.if-not-is_flush.ensures.0 refl) in
    tried_named s c.args.name step c.deref.result.now c.deref-2.result.now same_sent same_names asked found waits _
    (it_waits s c.args.name step c.deref.result.now c.deref-2.result.now same_sent same_names asked found waits, flush)
    (same_state _ (after s (step asked)) (ap (λ (s : State). s.taken) c.self.view_is)
    (c.max-self-inside.ensures ∙ ap (λ n. max n c.due.result) (ap (λ (s : State). s.owed) c.self.view_is) ∙ ap (max s.owed) c.due.ensures)
    (ap (λ (s : State). s.sent) c.self.view_is)
    (c.stop_waiting.ensures ∙ same_waiting _ _ _ _ (ap (λ (s : State). s.waiting) c.self.view_is) (sym name))
    (ap (λ (s : State). s.events + 1) c.self.view_is))
