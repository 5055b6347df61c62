use Rattle.manager.specs.Manager.{abandoned}
use Rattle.management.proofs.Standing.{asked}
use Rattle.management.proofs.Turns.{chain_abandoned, idle_to_abandon}
use Rattle.management.proofs.management.Management.abandon_join.Goals as goal

pub invariant_of-self : goal.invariant_of-self
invariant_of-self g c =
    let st = c.self.inside.manager in
    asked c.self.inside.config c.self.inside.disk st (abandoned st) c.abandon_join.new.self c.self.inside.seat c.abandon_join.result c.self.invariant (chain_abandoned st)
    (λ ok. idle_to_abandon st (c.abandon_join.ensures.ok ok)) c.abandon_join.ensures.done c.abandon_join.ensures.as_before
