use Rattle.std.proofs.Common.{refl, ◌∙◌}
use Rattle.chain_core.specs.Stays.{step_or_stop_stays}
use Rattle.chain_steps.specs.Steps.{answer_floor}
use Rattle.chain_tests.proofs.chain_core_tests.pay.Goals as goal

pub returns-clause-of_board : goal.returns-clause-of_board
returns-clause-of_board c =
    (step_or_stop_stays (λ s. s.about) c.args.node.now c.answer_floor.new.self c.answer_floor.result (answer_floor c.read-floor.result.front c.args.node.now.state) refl c.answer_floor.ensures).board ∙ c.requires.of_board
