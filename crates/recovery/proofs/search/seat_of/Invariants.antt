use Rattle.std.proofs.Common.{◌≡◌, ◌<◌, ℕ, Some}
use Rattle.std.specs.Prelude.{slice_get}
use Rattle.recovery.proofs.search.seat_of.Given as goal

-- no seat so far is this member's
abbrev pub invariant-loop-seat : goal.invariant-loop-seat
invariant-loop-seat l = (s : ℕ) → s < l.seat → slice_get l.chain s ≡ Some l.member → ⊥
