use Rattle.recovery.specs.Candidate.{IsBestSoFar}
use Rattle.recovery.proofs.search.best_of.Given as goal

-- the best of the disks before this place
abbrev pub invariant-loop-place : goal.invariant-loop-place
invariant-loop-place l = IsBestSoFar l.chain l.returned l.place l.best
