-- What an outbox holds.
use Rattle.std.specs.Prelude.{◌+◌, ◌≤◌, map}
use Rattle.std.specs.VecDeque.{deque_capacity, deque_len}
use Rattle.member.specs.Posted.{Boxes}
use Rattle.member.specs.declared.outbox.Outbox.{Outbox}

abbrev pub boxes_of : Outbox → Boxes
boxes_of outbox = record {
  on = map (λ bundle. bundle.items) outbox.on.items;
  back = map (λ bundle. bundle.items) outbox.back.items;
  to_head = map (λ bundle. bundle.items) outbox.to_head.items;
}

-- each box has room for a bundle more
pub record HasRoom (outbox : Outbox) : Type 0 where
  pub on : deque_len outbox.on + 1 ≤ deque_capacity outbox.on
  pub back : deque_len outbox.back + 1 ≤ deque_capacity outbox.back
  pub to_head : deque_len outbox.to_head + 1 ≤ deque_capacity outbox.to_head
