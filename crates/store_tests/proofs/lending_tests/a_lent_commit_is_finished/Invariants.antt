use Rattle.std.specs.Prelude.{Some}
use Rattle.loans.specs.Rings.{ring_of}
use Rattle.store_tests.proofs.lending_tests.a_lent_commit_is_finished.Given as goal

-- the ring that the two sides share
abbrev pub ghosts-finished : goal.ghosts-finished
ghosts-finished g a = record { ring = λ number. Some (ring_of a.sides.lender.end) }
