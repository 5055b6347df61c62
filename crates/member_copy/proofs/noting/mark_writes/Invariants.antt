use Rattle.std.proofs.Common.{◌≤◌, ◌-◌}
use Rattle.member_copy.specs.Noting.{HasMarked}
use Rattle.member_copy.proofs.Marking.{HaveCopied}
use Rattle.member_copy.proofs.noting.mark_writes.Given as goal

-- the writes so far are marked
abbrev pub invariant-loop-noted : goal.invariant-loop-noted
invariant-loop-noted g l = record {
  from : l.from ≤ l.noted;
  upto : l.noted ≤ l.to;
  marked : HasMarked l.node.state l.from l.noted l.fn.sender l.sender;
  copied : HaveCopied l.node.state l.from l.noted l.fn.sender l.sender;
}

abbrev pub decreases-loop-noted : goal.decreases-loop-noted
decreases-loop-noted g l = l.to - l.noted
