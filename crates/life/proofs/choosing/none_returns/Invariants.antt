use Rattle.std.proofs.Common.{◌≡◌, ◌<◌, ℕ, false}
use Rattle.life.specs.Recovered.{comes_back}
use Rattle.life.proofs.choosing.none_returns.Given as goal

abbrev pub invariant-loop-place : goal.invariant-loop-place
invariant-loop-place l = (k : ℕ) → k < l.place-counter → comes_back l.fn.returned k ≡ false
