use Rattle.std.proofs.Common.{sym}
use Rattle.chain_steps.specs.Waiting.{IsOfDue, is_due}
use Rattle.chain_steps.proofs.Firsts.{found_has}
use Rattle.chain_steps.proofs.tokens.Tokens.next_due.Goals as goal

pub settle-requires-clause-of_board : goal.settle-requires-clause-of_board
settle-requires-clause-of_board c =
    found_has (IsOfDue c.args.due.now) (is_due c.args.due.now) c.args.self.now c.take_out.result c.requires (c.take_out.ensures (is_due c.args.due.now) (sym c.in_ok-at.ensures.place)).0
