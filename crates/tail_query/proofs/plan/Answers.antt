use Rattle.std.proofs.Common.{refl}
use Rattle.tail_query.proofs.plan.Goals as goal

pub returns-then-is_clean : goal.returns-then-is_clean
returns-then-is_clean c = record { local = (λ _. c.is_clean.ensures.0 c.if-is_clean.true, λ _. refl) }
