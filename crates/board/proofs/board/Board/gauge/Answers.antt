use Rattle.std.proofs.Common.{rules, ◌∙◌}
use Rattle.board.proofs.Receipts.{gauge_allowed}
use Rattle.board.proofs.board.Board.gauge.Goals as goal

pub load-durable-requires : goal.load-durable-requires
load-durable-requires c = (search rules, search rules, rw c.gauge_at-word.ensures.word (gauge_allowed _ _ _ _ c.args.slot (search rules)))

pub invariant_of-seat : goal.invariant_of-seat
invariant_of-seat c = let t = c.load-durable.ensures.2 c.args.slot c.gauge_at-word.ensures.word in t.2 ∙ c.seat.invariant

pub returns : goal.returns
returns c = let t = c.load-durable.ensures.2 c.args.slot c.gauge_at-word.ensures.word in record {
  step = search rules;
  of_seat = search rules;
  slot = search rules;
  never_back = search rules;
  alone = search rules;
  ruled = search rules;
}
