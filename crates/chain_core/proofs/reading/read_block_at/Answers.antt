use Rattle.std.proofs.Common.{sym, ◌∙◌}
use Rattle.chain_core.specs.Node.{size_of}
use Rattle.chain_core.proofs.Ranges.{upto_fit}
use Rattle.chain_core.proofs.reading.read_block_at.Goals as goal

pub returns-clause-read : goal.returns-clause-read
returns-clause-read g c = λ keeps volume kept long.
    let base = c.in_ok-read_base.ensures.base keeps volume kept long in
    sym (sym base.same
    ∙ c.value_at.ensures base.under (upto_fit (size_of (g.S.StoreLike.about c.args.store.now)) _ c.args.front c.args.table.now (base.as_long ∙ long) c.requires.inside)
    (sym base.is))
