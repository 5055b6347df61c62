use Rattle.std.proofs.Common.{◌≡◌, ◌≤◌, All, Some, vec_len}
use Rattle.std.specs.Prelude.{vec_capacity}
use Rattle.loans.specs.Rings.{IsOf}
use Rattle.managing.proofs.beginning.spares_of.Given as goal

abbrev pub invariant-loop : goal.invariant-loop
invariant-loop g l = (vec_len l.spares ≡ l.counter) × (8 ≤ vec_capacity l.spares) × All (λ seat. g.J.Agreed.board ≡ Some seat.board) l.seats.items
    × All (λ s. IsOf (g.J.Rings.ring s.number) s.lender.end) l.sides.items
