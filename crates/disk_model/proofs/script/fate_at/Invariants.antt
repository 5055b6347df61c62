use Rattle.std.proofs.Common.{◌≡◌, drop}
use Rattle.disk_model.specs.Script.{fate_of}
use Rattle.disk_model.specs.declared.script.Fate.TheVariants.{Works}
use Rattle.disk_model.proofs.script.fate_at.Given as goal

abbrev pub invariant-loop-event : goal.invariant-loop-event
invariant-loop-event l = fate_of l.call l.fate (drop l.event-index l.events) ≡ fate_of l.call Works l.events
