-- Entries of a script.
use Rattle.std.specs.Prelude.{ℕ, ◌+◌, ◌-◌, ◌^◌, min}
use Rattle.disk_model.specs.declared.script.Event.{Event}
use Rattle.disk_model.specs.declared.script.Event.TheVariants.{FailAt, StopAt}

-- an entry whose calls are counted from this one on
abbrev pub counted_from : ℕ → Event → Event
counted_from calls (FailAt call) = FailAt (min (calls + call) (2 ^ 64 - 1))
counted_from calls (StopAt call bytes) = StopAt (min (calls + call) (2 ^ 64 - 1)) bytes
