use Rattle.std.proofs.Common.{sym, subst}
use Rattle.sessions.specs.Talk.{IsHistoryOf}
use Rattle.sessions.proofs.Histories.{history_at_end, talk_at_end}
use Rattle.sessions.proofs.talk.Talk.end_of_input.Goals as goal

pub invariant_of-self : goal.invariant_of-self
invariant_of-self g c = rw c.end_of_input.ensures (c.self.invariant.0, talk_at_end _ _ _ c.self.invariant.1 c.feeds_are_lawful.ensures.lawful)

pub returns-clause-history : goal.returns-clause-history
returns-clause-history g c history is =
    let was = subst (λ t. IsHistoryOf t history) (sym c.self.view_is) is in
    rw c.end_of_input.ensures (history_at_end c.feeds_are_lawful.ensures.lawful _ history was)
