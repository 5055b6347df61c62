use Rattle.std.proofs.Common.{◌∙◌, ap}
use Rattle.std.specs.Prelude.{slice_index}
use Rattle.board.specs.Mask.{with_slot}
use Rattle.board.specs.Steps.{words_after}
use Rattle.board.specs.declared.view.Step.TheVariants.{CountIn}
use Rattle.chain.specs.LoneBoard.{Lone, Words, counted_in}
use Rattle.chain.proofs.WordSteps.{lone_then, words_of-mask}
use Rattle.chain.proofs.lone_board.LoneBoard.count_in.Goals as goal

pub returns : goal.returns
returns c =
    let lone = c.self.inside in
    let words = words_after lone.board.opening.words lone.seat.steps in
    lone_then lone.board lone.seat c.count_in.new.seat (CountIn c.args.slot) c.self.invariant.0 c.count_in.ensures.step
    ∙ ap (λ (w : Words). let l : Lone = record { id = lone.board; seat = lone.seat.number; words = w } in l) (words_of-mask words (with_slot (slice_index words 1) c.args.slot) c.self.invariant.2)
    ∙ ap (λ (l : Lone). record l { words = counted_in l.words c.args.slot }) c.self.view_is
