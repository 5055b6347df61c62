use Rattle.std.specs.Prelude.{Some}
use Rattle.loans.specs.Rings.{ring_of}
use Rattle.benches.proofs.commits.commit_beside_reads.Given as goal

-- the ring that the two sides share
abbrev pub ghosts-commit_lent : goal.ghosts-commit_lent
ghosts-commit_lent g a = record { ring = λ number. Some (ring_of a.sides.lender.end) }
