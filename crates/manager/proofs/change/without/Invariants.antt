use Rattle.std.proofs.Common.{◌≡◌, take}
use Rattle.manager.specs.Orders.{without}
use Rattle.manager.proofs.change.without.Given as goal

-- the members so far, but for the one at the slot
abbrev pub invariant-loop-member : goal.invariant-loop-member
invariant-loop-member l = l.left.items ≡ without l.slot (take l.member-index l.members)
