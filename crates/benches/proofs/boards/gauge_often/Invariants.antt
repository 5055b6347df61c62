use Rattle.std.proofs.Common.{◌≡◌}
use Rattle.benches.proofs.boards.gauge_often.Given as goal

abbrev pub invariant-loop-call : goal.invariant-loop-call
invariant-loop-call l = (l.seat.board ≡ l.board) × (l.crew.board ≡ l.board) × (l.crew.seat ≡ l.seat.number)
