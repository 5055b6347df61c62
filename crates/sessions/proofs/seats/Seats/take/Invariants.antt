-- The seats so far aren't free.
use Rattle.std.proofs.Common.{◌≡◌, ◌<◌, ℕ}
use Rattle.std.specs.Prelude.{slice_index_or}
use Rattle.sessions.specs.Seats.{IsFull, no_seat}
use Rattle.sessions.proofs.seats.Seats.take.Given as goal

abbrev pub invariant-loop-number : goal.invariant-loop-number
invariant-loop-number l = record {
  same : l.self-inside.seats ≡ l.initial.self-inside.seats;
  full : (k : ℕ) → k < l.number → IsFull (slice_index_or l.self-inside.seats k no_seat);
}
