-- What a script makes of a call.
use Rattle.std.specs.Prelude.{ℕ, ◌+◌, ◌-◌, ◌^◌, min, List, [], ◌∷◌, Result, Ok, Err, if◌then◌else◌, ◌==◌}
use Rattle.disk_model.specs.declared.error.DiskError.{DiskError}
use Rattle.disk_model.specs.declared.error.DiskError.TheVariants.{Stopped}
use Rattle.disk_model.specs.declared.script.Event.{Event}
use Rattle.disk_model.specs.declared.script.Event.TheVariants.{FailAt, StopAt}
use Rattle.disk_model.specs.declared.script.Fate.{Fate}
use Rattle.disk_model.specs.declared.script.Fate.TheVariants.{Works, Fails, Stops}

-- a fault is told where the disk isn't to stop
abbrev pub failing : Fate → Fate
failing Works = Fails
failing Fails = Fails
failing (Stops bytes) = Stops bytes

-- what an entry makes of a call
abbrev pub fate_after : ℕ → Fate → Event → Fate
fate_after call fate (FailAt at) = if at == call then failing fate else fate
fate_after call fate (StopAt at bytes) = if at == call then Stops bytes else fate

-- what the entries make of a call, one after the other
abbrev pub fate_of : ℕ → Fate → List Event → Fate
fate_of call fate [] = fate
fate_of call fate (event ∷ events) = fate_of call (fate_after call fate event) events

-- calls are counted up to the greatest number
abbrev pub next_call : ℕ → ℕ
next_call calls = min (calls + 1) (2 ^ 64 - 1)

-- what a call with this fault answers
abbrev pub answer : DiskError → Fate → Result (Unit {0}) DiskError
answer fault Works = Ok tt
answer fault Fails = Err fault
answer fault (Stops bytes) = Err Stopped
