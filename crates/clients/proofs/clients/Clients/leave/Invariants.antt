use Rattle.std.proofs.Common.{◌≡◌, ◌++◌, drop, map, take}
use Rattle.clients.specs.Calls.{without}
use Rattle.clients.proofs.clients.Clients.leave.Given as goal

-- the clients before this one are without the member, the others are as they were
abbrev pub invariant-loop-client : goal.invariant-loop-client
invariant-loop-client l =
    l.client-items ≡ map (without l.place) (take l.client-index l.initial.client-items) ++ drop l.client-index l.initial.client-items
