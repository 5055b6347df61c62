use Rattle.std.proofs.Common.{◌≡◌, ◌≤◌, ◌-◌}
use Rattle.version_table.specs.Held.{forgotten_to}
use Rattle.version_table.proofs.table.Table.forget_to.Given as goal

abbrev pub invariant-loop-self : goal.invariant-loop-self
invariant-loop-self l = record { come : l.self ≡ forgotten_to l.initial.self l.self.forgotten; from : l.initial.self.forgotten ≤ l.self.forgotten; upto : l.self.forgotten ≤ l.d }

abbrev pub decreases-loop-self : goal.decreases-loop-self
decreases-loop-self l = l.d - l.self.forgotten
