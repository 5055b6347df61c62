use Rattle.std.proofs.Common.{◌≡◌, take}
use Rattle.chain.specs.Opening.{youngest_of}
use Rattle.chain.proofs.opening.youngest_of.Given as goal

-- the greatest so far
abbrev pub invariant-loop-member : goal.invariant-loop-member
invariant-loop-member l = l.youngest ≡ youngest_of (take l.member-index l.members)
