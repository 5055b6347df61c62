use Rattle.std.proofs.Common.{◌≡◌, ℕ, ◌<◌, ◌∙◌, ap, subst}
use Rattle.std.specs.Prelude.{slice_index}
use Rattle.board.specs.Mask.{without_slot}
use Rattle.board.specs.Seats.{BoardId}
use Rattle.board.specs.Steps.{words_after}
use Rattle.board.specs.declared.view.Step.TheVariants.{CountOut}
use Rattle.chain.specs.LoneBoard.{Lone, Words, counted_out}
use Rattle.chain.proofs.WordSteps.{counts_others, is_byte, lone_then, words_of-mask}
use Rattle.chain.proofs.lone_board.LoneBoard.count_out.Goals as goal

pub returns-clause-words : goal.returns-clause-words
returns-clause-words c =
    let lone = c.self.inside in
    let words = words_after lone.board.opening.words lone.seat.steps in
    lone_then lone.board lone.seat c.count_out.new.seat (CountOut c.args.slot) c.self.invariant.0 c.count_out.ensures.step
    ∙ ap (λ (w : Words). let l : Lone = record { id = lone.board; seat = lone.seat.number; words = w } in l) (words_of-mask words (without_slot (slice_index words 1) c.args.slot) c.self.invariant.2)
    ∙ ap (λ (l : Lone). record l { words = counted_out l.words c.args.slot }) c.self.view_is

pub returns-clause-others : goal.returns-clause-others
returns-clause-others c = λ other apart counted.
    let lone = c.self.inside in
    let one : lone.seat.board.opening.seats ≡ 1 = ap (λ (b : BoardId). b.opening.seats) c.self.invariant.0 ∙ c.self.invariant.1 in
    let own : slice_index (words_after lone.board.opening.words lone.seat.steps) 1 < 256 =
    subst (λ (b : BoardId). slice_index (words_after b.opening.words lone.seat.steps) 1 < 256) c.self.invariant.0 (is_byte lone.seat c.self.invariant.4 one) in
    let byte : c.args.self.now.words.mask < 256 = subst (λ (l : Lone). l.words.mask < 256) c.self.view_is own in
    counts_others c.args.self.now.words.mask c.args.slot other byte (subst (λ (n : ℕ). n < 8) c.number.ensures.number c.number.ensures.within) apart counted
