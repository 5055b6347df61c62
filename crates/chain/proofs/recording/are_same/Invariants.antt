use Rattle.std.proofs.Common.{◌≡◌, length, take}
use Rattle.chain.proofs.recording.are_same.Given as goal

-- they are as long, and the same so far
abbrev pub invariant-loop-at : goal.invariant-loop-at
invariant-loop-at l = record {
  long : length l.one ≡ length l.other;
  so_far : take l.at l.one ≡ take l.at l.other;
}
