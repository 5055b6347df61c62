-- How often a disk can have failed at most.
use Rattle.std.specs.Prelude.{◌≡◌, ℕ, ◌+◌, ◌-◌, ◌^◌, ◌<◌, ◌≤◌, max, Bool, true, false, List, [], ◌∷◌}
use Rattle.std.proofs.Common.{arith, refl}
use Rattle.std.proofs.Math.Nat.{le_refl, le-max_left}
use Rattle.disk_model.specs.declared.script.Event.{Event}

-- One more than how far a count of failures can go that is kept in 64 bits: so whose count is the most that there can be can't
-- fail any more.
abbrev pub most_counted : ℕ → ℕ
most_counted failures = max failures (2 ^ 64 - 1) + 1

-- how often a disk can have failed at most, with this script, stopped or not, and so many failures: no more where it
-- runs and no entry is left, for then nothing more is to happen to it
abbrev pub most_by : List Event → Bool → ℕ → ℕ
most_by [] false failures = failures
most_by [] true failures = most_counted failures
most_by (event ∷ events) stopped failures = most_counted failures

-- a count keeps below that
pub below_counted : (failures : ℕ) → failures < most_counted failures
below_counted failures = omega (arith, le-max_left failures (2 ^ 64 - 1))

pub within_counted : (failures : ℕ) → failures ≤ most_counted failures
within_counted failures = omega (arith, below_counted failures)

-- and so does that of a disk in memory
pub within_by : (script : List Event) (stopped : Bool) (failures : ℕ) → failures ≤ most_by script stopped failures
within_by [] false failures = le_refl failures
within_by [] true failures = within_counted failures
within_by (event ∷ events) stopped failures = within_counted failures

-- what has failed as often as it can runs
pub runs_by : (script : List Event) (stopped : Bool) (failures : ℕ) → most_by script stopped failures ≤ failures → stopped ≡ false
runs_by [] false failures most = refl
runs_by [] true failures most = absurd (omega (arith, most, below_counted failures))
runs_by (event ∷ events) stopped failures most = absurd (omega (arith, most, below_counted failures))
