use Rattle.std.proofs.Common.{◌+◌, sym, ◌∙◌, ap}
use Rattle.world_model.specs.Machine.{Refuse, Asked, Move, State, after}
use Rattle.world_model.proofs.StepLemmas.{it_waits, its_name, same_state, same_waiting, tried_idle, tried_named}
use Rattle.world_model.proofs.machine.Machine.refuse.Goals as goal

pub returns-in_default : goal.returns-in_default
returns-in_default c = λ error.
    let step : Asked → Move = λ asked. Refuse asked error in
    let same_sent = c.deref.ensures.value ∙ ap (λ (s : State). s.sent) c.self.view_is in
    let same_names = c.deref-2.ensures.value ∙ ap (λ (s : State). s.waiting) c.self.view_is in
    tried_idle c.args.self.now c.args.name step c.deref.result.now c.deref-2.result.now same_sent same_names (λ asked may. may.1) c.in_default.ensures.none

pub returns : goal.returns
returns c = λ error.
    let s : State = c.args.self.now in
    let step : Asked → Move = λ asked. Refuse asked error in
    let asked : Asked = c.in-Some._asked.now in
    let same_sent = c.deref.ensures.value ∙ ap (λ (s : State). s.sent) c.self.view_is in
    let same_names = c.deref-2.ensures.value ∙ ap (λ (s : State). s.waiting) c.self.view_is in
    let found = c.in-Some.ensures.some in
    let waits = c.in-Some.ensures.waits in
    let name = its_name s c.args.name step c.deref.result.now c.deref-2.result.now same_sent same_names asked found waits in
    tried_named s c.args.name step c.deref.result.now c.deref-2.result.now same_sent same_names asked found waits _
    (it_waits s c.args.name step c.deref.result.now c.deref-2.result.now same_sent same_names asked found waits)
    (same_state _ (after s (step asked)) (ap (λ (s : State). s.taken) c.self.view_is)
    (ap (λ (s : State). s.owed) c.self.view_is)
    (ap (λ (s : State). s.sent) c.self.view_is)
    (c.stop_waiting.ensures ∙ same_waiting _ _ _ _ (ap (λ (s : State). s.waiting) c.self.view_is) (sym name))
    (ap (λ (s : State). s.events + 1) c.self.view_is))
