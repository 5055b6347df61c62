use Rattle.std.proofs.Common.{sym, ◌∙◌}
use Rattle.life.proofs.choosing.none_returns.Goals as goal

pub returns-then-contains : goal.returns-then-contains
returns-then-contains c = (λ is. absurd (cc is), λ none. sym (none c.loop-place.place-counter c.loop-place-test.true) ∙ sym c.contains.ensures.value ∙ c.if-contains.true)
