use Rattle.std.proofs.Common.{◌≡◌, ◌++◌, ◌+◌, ◌≤◌, length, map}
use Rattle.std.specs.VecDeque.{deque_capacity, deque_len}
use Rattle.chain_steps.specs.declared.message.Sent.{Sent}
use Rattle.chain.proofs.messages.send.Given as goal

-- those that were sent, and those that are left
abbrev pub invariant-loop-sent : goal.invariant-loop-sent
invariant-loop-sent l = record {
  sent : l.to.items ++ map (λ (m : Sent). m.envelope) l.sent-iterator.rest.items ≡ l.fn.to.items ++ map (λ (m : Sent). m.envelope) l.fn.messages.items;
  room : deque_len l.to + length l.sent-iterator.rest.items ≤ deque_capacity l.to;
}
