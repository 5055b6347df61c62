use Rattle.std.proofs.Common.{◌≡◌}
use Rattle.chain_tests.proofs.board_tests.post_all.Given as goal

abbrev pub invariant-loop-posted : goal.invariant-loop-posted
invariant-loop-posted g l = l.seat.board ≡ l.board
