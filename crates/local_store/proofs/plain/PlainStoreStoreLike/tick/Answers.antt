use Rattle.std.proofs.Common.{subst}
use Rattle.local_store.specs.About.{meaning_with}
use Rattle.local_store.specs.Meaning.{Means}
use Rattle.local_store.specs.Plain.{means_plain, runs_plain}
use Rattle.local_store.proofs.plain.PlainStoreStoreLike.tick.Goals as goal

pub returns-clause-any_moment : goal.returns-clause-any_moment
returns-clause-any_moment c = λ model volume kept. runs_plain _ _ _ (λ x left. means_plain c.args.self.now volume x kept (subst (λ s. Means (meaning_with s.about s.volume) x) c.self.view_is left))
