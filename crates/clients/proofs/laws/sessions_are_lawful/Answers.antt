use Rattle.clients.proofs.Histories.{goes_lawful}
use Rattle.clients.proofs.laws.sessions_are_lawful.Goals as goal

pub returns-clause-lawful : goal.returns-clause-lawful
returns-clause-lawful c = λ clients histories go k d within. goes_lawful c.feeds_are_lawful.ensures.lawful _ _ (go.going k d within)
