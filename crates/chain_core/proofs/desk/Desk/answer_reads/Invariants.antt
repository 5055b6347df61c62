use Rattle.std.proofs.Common.{◌≡◌, ◌≤◌, ◌+◌, ◌++◌, [], length, vec_len, vec_capacity}
use Rattle.std.specs.Prelude.{filter, not}
use Rattle.chain_steps.specs.Waiting.{is_read}
use Rattle.chain_core.specs.Reads.{answered}
use Rattle.chain_core.proofs.desk.Desk.answer_reads.Given as goal

-- those answered so far, and those that are left
abbrev pub invariant-loop-payload : goal.invariant-loop-payload
invariant-loop-payload l = record {
  answered : l.served.items ++ answered l.payload-iterator.rest.items (filter is_read l.self-inside.tokens) ≡ l.fn.served.items ++ answered l.fn.payloads.items (filter is_read l.fn.self);
  others : filter (λ w. not (is_read w)) l.self-inside.tokens ≡ filter (λ w. not (is_read w)) l.fn.self;
  many : length l.payload-iterator.rest.items ≡ length (filter is_read l.self-inside.tokens);
  room : vec_len l.served + length l.payload-iterator.rest.items ≤ vec_capacity l.served;
  empty : l.self-inside.room.items ≡ [];
  few : length l.self-inside.tokens ≤ vec_capacity l.self-inside.room;
}
