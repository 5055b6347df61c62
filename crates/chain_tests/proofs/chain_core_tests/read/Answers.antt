use Rattle.std.proofs.Common.{◌∙◌}
use Rattle.chain_core.specs.Stays.{read_stays}
use Rattle.chain_tests.proofs.chain_core_tests.read.Goals as goal

pub returns : goal.returns
returns g c =
    (read_stays (λ s. s.about) c.args.node.now c.read.new.self c.in-Ok.out c.args.offset 3 c.new-token.result c.in-Ok.ensures.at_once c.in-Ok.ensures.waits c.in-Ok.ensures.about).board ∙ c.requires
