use Rattle.std.specs.Prelude.{Some}
use Rattle.loans.specs.Rings.{ring_of}
use Rattle.store_tests.proofs.lending_tests.a_log_is_taken_back.Given as goal

-- the ring that the two sides share
abbrev pub ghosts-taken_back : goal.ghosts-taken_back
ghosts-taken_back g a = record { ring = λ number. Some (ring_of a.sides.lender.end) }
