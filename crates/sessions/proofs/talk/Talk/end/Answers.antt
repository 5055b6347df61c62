use Rattle.sessions.proofs.Histories.{talk_lawful}
use Rattle.sessions.proofs.talk.Talk.end.Goals as goal

pub returns-clause-lawful : goal.returns-clause-lawful
returns-clause-lawful g c = rw (← c.self.view_is) (talk_lawful _ _ _ c.self.invariant.1 c.feeds_are_lawful.ensures.lawful)
