use Rattle.std.proofs.Common.{◌≡◌}
use Rattle.chain_tests.proofs.board_tests.climb.Given as goal

abbrev pub invariant-loop-n : goal.invariant-loop-n
invariant-loop-n l = l.seat.board ≡ l.board
