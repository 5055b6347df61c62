use Rattle.std.proofs.Common.{ap, sym}
use Rattle.std.specs.Prelude.{is_some}
use Rattle.local_store.specs.Plain.{Plain}
use Rattle.local_store.proofs.plain.PlainStoreStoreLike.is_lent.Goals as goal

pub returns-clause-lent : goal.returns-clause-lent
returns-clause-lent c = ap (λ (p : Plain). is_some p.about.lent) c.self.view_is

pub returns-clause-here : goal.returns-clause-here
returns-clause-here c = λ none. sym (ap (λ (p : Plain). p.about.lent) c.self.view_is)
