use Rattle.std.proofs.Common.{◌≡◌, vec_len}
use Rattle.std.specs.Prelude.{All}
use Rattle.benches.proofs.boards.jobs.Given as goal

-- the seats that are left and those that have their job are of the board
abbrev pub invariant-loop-seat : goal.invariant-loop-seat
invariant-loop-seat l = record {
  seats : All (λ seat. seat.board ≡ l.board) l.seats.items;
  jobs : All (λ job. job.seat.board ≡ l.board) l.jobs.items;
}

abbrev pub decreases-loop-seat : goal.decreases-loop-seat
decreases-loop-seat l = vec_len l.seats
