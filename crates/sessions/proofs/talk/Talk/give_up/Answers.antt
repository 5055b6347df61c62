use Rattle.std.proofs.Common.{sym, subst}
use Rattle.sessions.specs.Talk.{IsHistoryOf}
use Rattle.sessions.proofs.Histories.{history_given_up, talk_given_up}
use Rattle.sessions.proofs.talk.Talk.give_up.Goals as goal

pub invariant_of-self : goal.invariant_of-self
invariant_of-self g c = rw c.give_up.ensures (c.self.invariant.0, talk_given_up _ _ _ c.self.invariant.1 c.feeds_are_lawful.ensures.lawful)

pub returns-clause-history : goal.returns-clause-history
returns-clause-history g c history is =
    let was = subst (λ t. IsHistoryOf t history) (sym c.self.view_is) is in
    rw c.give_up.ensures (history_given_up c.feeds_are_lawful.ensures.lawful _ history was)
