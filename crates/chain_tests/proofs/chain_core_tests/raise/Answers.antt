use Rattle.std.proofs.Common.{ap, ◌∙◌}
use Rattle.chain_core.specs.Stays.{raised_stays}
use Rattle.chain_tests.proofs.chain_core_tests.raise.Goals as goal

pub returns-clause-of_board : goal.returns-clause-of_board
returns-clause-of_board g c =
    (raised_stays (λ s. s.about) c.raise.new.self c.raised.new.self c.raised.result c.raised.ensures).board ∙ ap (λ s. s.state.board) c.raise.ensures.kept.node ∙ c.requires.of_board
