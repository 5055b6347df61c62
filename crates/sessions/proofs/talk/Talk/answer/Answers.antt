use Rattle.std.proofs.Common.{sym, subst}
use Rattle.nbd_session.specs.Replies.{reply_seen}
use Rattle.sessions.specs.Talk.{IsHistoryOf}
use Rattle.sessions.proofs.Histories.{history_answered, talk_answered, talk_given_up}
use Rattle.sessions.proofs.talk.Talk.answer.Goals as goal
use Rattle.sessions.proofs.talk.Talk.answer.Goals.{in-Ok, in-Err}

pub invariant_of-self : goal.invariant_of-self
invariant_of-self g c = rw c.in-Ok.ensures.ok (c.self.invariant.0, talk_answered _ _ _ c.self.invariant.1 c.feeds_are_lawful.ensures.replies (reply_seen c.args.reply))

pub invariant_of-self-in-Err : goal.invariant_of-self-in-Err
invariant_of-self-in-Err g c =
    rw (c.give_up.ensures, c.in-Err.ensures.err) (c.self.invariant.0, talk_given_up _ _ _ c.self.invariant.1 c.feeds_are_lawful.ensures.lawful)

pub returns-clause-lawful : goal.returns-clause-lawful
returns-clause-lawful g c history is =
    let was = subst (λ t. IsHistoryOf t history) (sym c.self.view_is) is in
    elim c.match-done.branch [
      | in-Ok w ↦ rw (w.result-is, w.self-is, w.in-Ok.ensures.ok, ← c.self.view_is)
          (history_answered c.feeds_are_lawful.ensures.replies _ history (reply_seen c.args.reply) was)
      | in-Err w ↦ rw w.result-is tt
    ]
