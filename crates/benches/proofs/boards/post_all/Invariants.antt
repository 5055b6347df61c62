use Rattle.std.proofs.Common.{◌≡◌}
use Rattle.benches.proofs.boards.post_all.Given as goal

abbrev pub invariant-loop-receipt : goal.invariant-loop-receipt
invariant-loop-receipt l = l.seat.board ≡ l.board
