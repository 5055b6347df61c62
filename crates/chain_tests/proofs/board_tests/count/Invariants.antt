use Rattle.std.proofs.Common.{◌≡◌, true}
use Rattle.chain_tests.proofs.board_tests.count.Given as goal

abbrev pub invariant-loop-round : goal.invariant-loop-round
invariant-loop-round l = (l.seat.board ≡ l.board) × (l.seat.counts ≡ true)
