use Rattle.std.proofs.Common.{◌≢◌, take}
use Rattle.std.specs.Prelude.{AllPairs}
use Rattle.configurations.proofs.record.has_each_once.Given as goal

-- none so far stands twice
abbrev pub invariant-loop-i : goal.invariant-loop-i
invariant-loop-i l = AllPairs (λ a b. a.slot ≢ b.slot) (take l.i l.members)
