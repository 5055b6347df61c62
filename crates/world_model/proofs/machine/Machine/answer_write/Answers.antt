use Rattle.std.proofs.Common.{◌+◌, ◌≤◌, length, refl, sym, ◌∙◌, ap, subst, arith}
use Rattle.std.proofs.lemmas.Bool.{false≢true}
use Rattle.std.proofs.lemmas.List.{with_items_is}
use Rattle.world_model.specs.Event.{Request}
use Rattle.world_model.specs.Machine.{AnswerWrite, Asked, IsPlain, answered_at, Move, State, after}
use Rattle.world_model.proofs.StepLemmas.{at_from, it_is_at, within_from, it_waits, its_name, same_state, same_waiting, tried_idle, tried_named, tried_named_not}
use Rattle.world_model.proofs.machine.Machine.answer_write.Goals as goal

pub returns-in_default : goal.returns-in_default
returns-in_default c =
    let step : Asked → Move = λ asked. AnswerWrite asked c.args.place in
    let same_sent = c.deref.ensures.value ∙ ap (λ (s : State). s.sent) c.self.view_is in
    let same_names = c.deref-2.ensures.value ∙ ap (λ (s : State). s.waiting) c.self.view_is in
    tried_idle c.args.self.now c.args.name step c.deref.result.now c.deref-2.result.now same_sent same_names (λ asked may. may.0.1) c.in_default.ensures.none

pub returns-then-not-is_at : goal.returns-then-not-is_at
returns-then-not-is_at c =
    let s : State = c.args.self.now in
    let step : Asked → Move = λ asked. AnswerWrite asked c.args.place in
    let asked : Asked = c.in-Some.asked.now in
    let same_sent = c.deref.ensures.value ∙ ap (λ (s : State). s.sent) c.self.view_is in
    let same_names = c.deref-2.ensures.value ∙ ap (λ (s : State). s.waiting) c.self.view_is in
    let found = c.in-Some.ensures.some in
    let waits = c.in-Some.ensures.waits in
    let name = its_name s c.args.name step c.deref.result.now c.deref-2.result.now same_sent same_names asked found waits in
    let same_taken = c.deref-3.ensures.value ∙ ap (λ (s : State). s.taken) c.self.view_is in
    tried_named_not s c.args.name step c.deref.result.now c.deref-2.result.now same_sent same_names asked found waits
    (λ may. false≢true (c.if-not-is_at.ensures.1 (at_from s asked c.deref-3.result.now c.args.name c.args.place same_taken name may.2)))

pub mark_answered-requires-clause-within : goal.mark_answered-requires-clause-within
mark_answered-requires-clause-within c =
    let within : c.args.place ≤ length c.deref-3.result.now = within_from c.deref-3.result.now c.args.name c.args.place (c.if-not-is_at.ensures.0 refl) in
    omega (arith, within, ap length (c.deref_mut.ensures.value ∙ sym c.deref-3.ensures.value))

pub returns : goal.returns
returns c =
    let s : State = c.args.self.now in
    let step : Asked → Move = λ asked. AnswerWrite asked c.args.place in
    let asked : Asked = c.in-Some.asked.now in
    let same_sent = c.deref.ensures.value ∙ ap (λ (s : State). s.sent) c.self.view_is in
    let same_names = c.deref-2.ensures.value ∙ ap (λ (s : State). s.waiting) c.self.view_is in
    let found = c.in-Some.ensures.some in
    let waits = c.in-Some.ensures.waits in
    let name = its_name s c.args.name step c.deref.result.now c.deref-2.result.now same_sent same_names asked found waits in
    let same_taken = c.deref-3.ensures.value ∙ ap (λ (s : State). s.taken) c.self.view_is in
    let kind : IsPlain asked.request = subst (λ (r : Request). IsPlain r) c.request.ensures (c.if-not-is_plain.ensures.0 refl) in
    let at = it_is_at s asked c.deref-3.result.now c.args.name c.args.place same_taken name (c.if-not-is_at.ensures.0 refl) in
    let marked = c.mark_answered.ensures ∙ ap (answered_at c.args.place) (c.deref_mut.ensures.value ∙ ap (λ (s : State). s.taken) c.self.view_is) in
    tried_named s c.args.name step c.deref.result.now c.deref-2.result.now same_sent same_names asked found waits _
    (it_waits s c.args.name step c.deref.result.now c.deref-2.result.now same_sent same_names asked found waits, kind, at)
    (same_state _ (after s (step asked)) (with_items_is c.self.inside.taken c.mark_answered.new.taken (c.mark_answered.auto.taken ∙ c.deref_mut.ensures.len) ∙ marked)
    (ap (λ (s : State). s.owed) c.self.view_is)
    (ap (λ (s : State). s.sent) c.self.view_is)
    (c.stop_waiting.ensures ∙ same_waiting _ _ _ _ (ap (λ (s : State). s.waiting) c.self.view_is) (sym name))
    (ap (λ (s : State). s.events + 1) c.self.view_is))
