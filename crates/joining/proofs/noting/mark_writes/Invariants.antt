use Rattle.std.proofs.Common.{◌≤◌, ◌-◌}
use Rattle.std.specs.Prelude.{IfSome, slice_get}
use Rattle.joining.specs.Copying.{HasMarked}
use Rattle.joining.proofs.Marking.{HaveCopied}
use Rattle.joining.proofs.noting.mark_writes.Given as goal

-- the writes so far are marked
abbrev pub invariant-loop-noted : goal.invariant-loop-noted
invariant-loop-noted g l = record {
  from : l.from ≤ l.noted;
  upto : l.noted ≤ l.to;
  marked : IfSome (slice_get l.world.chain.members l.at) (λ m. HasMarked m.node.state l.from l.noted l.fn.sender l.sender);
  copied : IfSome (slice_get l.world.chain.members l.at) (λ m. HaveCopied m.node.state l.from l.noted l.fn.sender l.sender);
}

abbrev pub decreases-loop-noted : goal.decreases-loop-noted
decreases-loop-noted g l = l.to - l.noted
