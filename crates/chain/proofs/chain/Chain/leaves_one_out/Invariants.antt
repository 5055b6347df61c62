use Rattle.std.proofs.Common.{◌≡◌, ℕ, ◌+◌, ◌<◌, ◌++◌, drop, take}
use Rattle.std.specs.Prelude.{Some, slice_get}
use Rattle.configurations.specs.declared.member.Member as recorded
use Rattle.chain.specs.Recording.{HasStoppedThere}
use Rattle.chain.proofs.chain.Chain.leaves_one_out.Given as goal

-- none so far is the one that is left out
abbrev pub invariant-loop-at : goal.invariant-loop-at
invariant-loop-at g l = record {
  same : l.recorded ≡ l.self.recorded.members;
  none : (k : ℕ) (m : recorded.Member) → k < l.at → slice_get l.recorded k ≡ Some m → l.next.members ≡ take k l.recorded ++ drop (k + 1) l.recorded → HasStoppedThere m.slot l.self.members → ⊥;
}
