use Rattle.std.proofs.Common.{refl}
use Rattle.manager.specs.Manager.{joining_of}
use Rattle.management.proofs.Standing.{asked}
use Rattle.management.proofs.Turns.{idle_to_join}
use Rattle.management.proofs.management.Management.join.Goals as goal

pub invariant_of-self : goal.invariant_of-self
invariant_of-self g c =
    let st = c.self.inside.manager in
    asked c.self.inside.config c.self.inside.disk st (joining_of c.from.result st) c.join.new.self c.self.inside.seat c.join.result c.self.invariant refl
    (λ ok. idle_to_join c.from.result st (c.join.ensures.ok ok)) c.join.ensures.done c.join.ensures.as_before
