use Rattle.std.proofs.Common.{ap, arith, refl}
use Rattle.std.proofs.lemmas.List.{get_or-replicate}
use Rattle.sessions.specs.Seats.{no_seat}
use Rattle.sessions.specs.declared.seats.Seat.{Seat}
use Rattle.sessions.proofs.seats.Seats.new.Goals as goal

pub loop-number-init : goal.loop-number-init
loop-number-init c = record {
  count = refl;
  first = λ k none. absurd (omega arith);
  free = λ k within. ap (λ (seat : Seat). seat.taken) (get_or-replicate 64 k no_seat no_seat within);
}
