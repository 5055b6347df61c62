use Rattle.std.specs.Prelude.{Some, ◌==◌, if◌then◌else◌}
use Rattle.loans.specs.Rings.{ring_of}
use Rattle.chain_tests.proofs.pausing_tests.serial_workers.Given as goal

-- the board, and the size
abbrev pub ghosts-paused-J-Agreed : goal.ghosts-paused-J-Agreed
ghosts-paused-J-Agreed g a = record { board = Some a.board; size = 32768 }

-- the ring of each slot
abbrev pub ghosts-paused-J-Rings : goal.ghosts-paused-J-Rings
ghosts-paused-J-Rings g a = record { ring = λ number. Some (ring_of (if number == 0 then a.first.sides.lender.end else (if number == 1 then a.second.sides.lender.end else a.third.sides.lender.end))) }
