use Rattle.std.proofs.Common.{◌≡◌, ◌≢◌, ◌<◌, ℕ}
use Rattle.serving.specs.Control.{order_for}
use Rattle.serving.proofs.control.slot_in.Given as goal

abbrev pub invariant-loop-number : goal.invariant-loop-number
invariant-loop-number l = (slot : ℕ) → slot < l.number → l.order ≢ order_for slot
