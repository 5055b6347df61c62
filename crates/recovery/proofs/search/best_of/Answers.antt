use Rattle.std.proofs.Common.{ℕ, ◌≡◌, length, subst, arith}
use Rattle.recovery.specs.Candidate.{IsBestSoFar}
use Rattle.recovery.proofs.search.best_of.Goals as goal

pub returns : goal.returns
returns c =
    let all : c.loop-place.place ≡ length c.args.returned.now = omega arith in
    subst (λ (k : ℕ). IsBestSoFar c.args.chain.now c.args.returned.now k c.loop-place.best) all c.loop-place.invariant
