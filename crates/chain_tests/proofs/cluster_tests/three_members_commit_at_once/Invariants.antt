use Rattle.std.specs.Prelude.{Some, ◌==◌, if◌then◌else◌}
use Rattle.loans.specs.Rings.{ring_of}
use Rattle.chain_tests.proofs.cluster_tests.three_members_commit_at_once.Given as goal

-- the board, and the size
abbrev pub ghosts-played-J-Agreed : goal.ghosts-played-J-Agreed
ghosts-played-J-Agreed g a = record { board = Some a.board; size = 32768 }

-- the ring of each slot
abbrev pub ghosts-played-J-Rings : goal.ghosts-played-J-Rings
ghosts-played-J-Rings g a = record { ring = λ number. Some (ring_of (if number == 0 then a.first.sides.lender.end else (if number == 1 then a.second.sides.lender.end else a.third.sides.lender.end))) }
