use Rattle.std.proofs.Common.{Bool, sym, subst}
use Rattle.std.specs.Prelude.{◌↔◌, IsTrue}
use Rattle.block_cache.specs.Cache.{Blocks, IsCached}
use Rattle.block_cache.proofs.Entries.{found_is_cached}
use Rattle.block_cache.proofs.cache.Cache.contains.Goals as goal

pub returns-then-len-gt0-clause-contains : goal.returns-then-len-gt0-clause-contains
returns-then-len-gt0-clause-contains c =
    subst (λ (es : Blocks). IsTrue c.contains.result ↔ IsCached es c.args.block) c.self.view_is
    (subst (λ (found : Bool). IsTrue found ↔ IsCached c.self.inside.blocks.entries c.args.block) (sym c.contains.ensures) (found_is_cached c.args.block c.self.inside.blocks.entries))
