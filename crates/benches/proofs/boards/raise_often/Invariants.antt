use Rattle.std.proofs.Common.{◌≡◌}
use Rattle.benches.proofs.boards.raise_often.Given as goal

abbrev pub invariant-loop-call : goal.invariant-loop-call
invariant-loop-call l = l.seat.board ≡ l.board
