-- How often the halves of a disk can have failed at most.
use Rattle.std.proofs.Common.{ℕ, ◌≤◌, Bool, true, false, List, [], ◌∷◌}
use Rattle.std.proofs.Math.Nat.{le_refl}
use Rattle.disk_model.specs.Counts.{most_by, most_counted, within_by}
use Rattle.disk_model.specs.declared.script.Event.{Event}

-- with no script no more than with one
pub most_of_none : (script : List Event) (stopped : Bool) (failures : ℕ) → most_by [] stopped failures ≤ most_by script stopped failures
most_of_none [] stopped failures = le_refl (most_by [] stopped failures)
most_of_none (e ∷ events) true failures = le_refl (most_counted failures)
most_of_none (e ∷ events) false failures = within_by (e ∷ events) false failures
