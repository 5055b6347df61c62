use Rattle.std.proofs.Common.{ap, ◌∙◌}
use Rattle.chain_core.specs.Stays.{looked_stays}
use Rattle.chain_tests.proofs.chain_core_tests.look.Goals as goal

pub returns-clause-of_board : goal.returns-clause-of_board
returns-clause-of_board g c =
    (looked_stays (λ s. s.about) c.look.new.self c.answer_front.new.self c.answer_front.result c.answer_front.ensures.step).board ∙ ap (λ s. s.state.board) c.look.ensures.kept.node ∙ c.requires.of_board
