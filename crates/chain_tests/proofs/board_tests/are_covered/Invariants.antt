use Rattle.std.proofs.Common.{◌≡◌}
use Rattle.chain_tests.proofs.board_tests.are_covered.Given as goal

abbrev pub invariant-loop-round : goal.invariant-loop-round
invariant-loop-round l = l.seat.board ≡ l.board
