use Rattle.std.specs.Prelude.{Some}
use Rattle.loans.specs.Rings.{ring_of}
use Rattle.chain_tests.proofs.sessions_tests.one_client_reads_what_another_wrote.Given as goal

-- the board, and the size
abbrev pub ghosts-played-J-Agreed : goal.ghosts-played-J-Agreed
ghosts-played-J-Agreed g a = record { board = Some a.board; size = 32768 }

-- the ring of the one slot
abbrev pub ghosts-played-J-Rings : goal.ghosts-played-J-Rings
ghosts-played-J-Rings g a = record { ring = λ number. Some (ring_of a.parts.sides.lender.end) }
