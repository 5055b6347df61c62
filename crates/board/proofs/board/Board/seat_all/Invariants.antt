use Rattle.std.proofs.Common.{◌≡◌, ◌<◌, ◌≤◌, ◌-◌, length, All, Some, slice_get, vec_capacity, vec_len}
use Rattle.board.specs.Seats.{IsNewSeat}
use Rattle.board.proofs.board.Board.seat_all.Given as goal

abbrev pub invariant-loop-all : goal.invariant-loop-all
invariant-loop-all l = record {
  room : l.seats ≤ vec_capacity l.all;
  some : 0 < length l.all.items;
  within : length l.all.items ≤ l.seats;
  new : All (IsNewSeat l.self) l.all.items;
  first : slice_get l.all.items 0 ≡ Some l.fn.first;
}

abbrev pub decreases-loop-all : goal.decreases-loop-all
decreases-loop-all l = l.seats - vec_len l.all
