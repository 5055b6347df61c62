use Rattle.std.proofs.Common.{◌≡◌, ◌-◌, ◌≤◌, [], map, replicate, vec_len, vec_capacity}
use Rattle.chain.proofs.links.Links.new.Given as goal

-- nothing is on the links so far
abbrev pub invariant-loop-alloc : goal.invariant-loop-alloc
invariant-loop-alloc l = record {
  empty : map (λ queue. queue.items) l.queues.items ≡ replicate (vec_len l.queues) [];
  room : vec_capacity l.queues ≡ 64;
  within : vec_len l.queues ≤ 64;
}

abbrev pub decreases-loop-alloc : goal.decreases-loop-alloc
decreases-loop-alloc l = 64 - vec_len l.queues
