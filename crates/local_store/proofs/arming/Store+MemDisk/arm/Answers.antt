use Rattle.std.proofs.Common.{refl}
use Rattle.local_store.proofs.ArmedSteps.{armed_leaves, armed_stored}
use Rattle.local_store.proofs.arming.Store+MemDisk.arm.Goals as goal

pub returns-clause-stays : goal.returns-clause-stays
returns-clause-stays c = record {
  tells = refl;
  kept = λ volume keep. armed_stored _ _ _ volume c.arm.ensures.stays keep;
  still = λ b. (λ p. p, λ p. p);
  leaves = λ d left. armed_leaves _ _ d c.arm.ensures.stays left;
  failed = c.arm.ensures.stays.failures;
}
