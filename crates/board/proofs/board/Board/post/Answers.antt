use Rattle.std.proofs.Common.{rules, ◌+◌, ◌∙◌, ap, max}
use Rattle.board.proofs.Receipts.{post_allowed}
use Rattle.board.proofs.board.Board.post.Goals as goal

pub fetch_max-requires : goal.fetch_max-requires
fetch_max-requires c = (search rules, search rules, rw c.gauge_at-word.ensures.word (post_allowed _ _ _ _ _ _ (search rules)))

pub invariant_of-seat : goal.invariant_of-seat
invariant_of-seat c = let t = c.fetch_max.ensures.2 c.args.receipt.slot (c.gauge_at-word.ensures.word ∙ ap (λ k. k + 2) c.slot.ensures) in t.2 ∙ c.seat.invariant

pub returns-clause-posted : goal.returns-clause-posted
returns-clause-posted c = let t = c.fetch_max.ensures.2 c.args.receipt.slot (c.gauge_at-word.ensures.word ∙ ap (λ k. k + 2) c.slot.ensures) in record {
  gauge = max c.fetch_max.result c.front.result;
  step = search rules;
  raised = search rules;
  never_back = search rules;
  alone = search rules;
}

pub returns-clause-ruled : goal.returns-clause-ruled
returns-clause-ruled c = let t = c.fetch_max.ensures.2 c.args.receipt.slot (c.gauge_at-word.ensures.word ∙ ap (λ k. k + 2) c.slot.ensures) in search rules
