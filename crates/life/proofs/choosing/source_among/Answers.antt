use Rattle.std.proofs.Common.{Err, ap, refl}
use Rattle.recovery.specs.declared.refusal.Refusal.{Refusal}
use Rattle.life.proofs.Chosen.{none_among}
use Rattle.life.proofs.choosing.source_among.Goals as goal

pub returns-in-Err-clause-none : goal.returns-in-Err-clause-none
returns-in-Err-clause-none c = (
  refl,
  none_among c.in-Err.field-0 c.args.chain.now.members c.args.seen.now (λ is. c.in-Err.ensures.none.0 (ap (λ (r : Refusal). Err r) is)) (λ is. (c.in-Err.ensures.strangers.0 (ap (λ (r : Refusal). Err r) is)).1),
)
