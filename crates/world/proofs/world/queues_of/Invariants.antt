use Rattle.std.proofs.Common.{◌≡◌, ◌≤◌, [], replicate, vec_capacity, vec_len}
use Rattle.world.proofs.world.queues_of.Given as goal

-- so many are made
abbrev pub invariant-loop : goal.invariant-loop
invariant-loop l = record {
  items : l.queues.items ≡ replicate l.counter [];
  len : vec_len l.queues ≡ l.counter;
  capacity : l.fn.count ≤ vec_capacity l.queues;
}
