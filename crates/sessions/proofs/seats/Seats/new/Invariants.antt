-- The seats so far have their first numbers, and the others are free.
use Rattle.std.proofs.Common.{◌≡◌, ◌<◌, ℕ, false, length}
use Rattle.std.specs.Prelude.{slice_index_or}
use Rattle.sessions.specs.Seats.{no_seat}
use Rattle.sessions.proofs.seats.Seats.new.Given as goal

abbrev pub invariant-loop-number : goal.invariant-loop-number
invariant-loop-number l = record {
  count : length l.seats ≡ 64;
  first : (k : ℕ) → k < l.number → slice_index_or l.seats k no_seat ≡ record { next = k; taken = false };
  free : (k : ℕ) → k < 64 → (slice_index_or l.seats k no_seat).taken ≡ false;
}
