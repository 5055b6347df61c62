use Rattle.std.proofs.Common.{◌≡◌, ◌++◌, take}
use Rattle.manager.specs.Orders.{tells}
use Rattle.manager.proofs.change.push_tells.Given as goal

-- the members so far are told
abbrev pub invariant-loop-member : goal.invariant-loop-member
invariant-loop-member l = l.orders.items ≡ l.initial.orders.items ++ tells (take l.member-index l.members)
