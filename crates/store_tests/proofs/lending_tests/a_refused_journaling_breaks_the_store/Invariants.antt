use Rattle.std.specs.Prelude.{Some}
use Rattle.loans.specs.Rings.{ring_of}
use Rattle.store_tests.proofs.lending_tests.a_refused_journaling_breaks_the_store.Given as goal

-- the ring that the two sides share
abbrev pub ghosts-refused : goal.ghosts-refused
ghosts-refused g a = record { ring = λ number. Some (ring_of a.sides.lender.end) }
