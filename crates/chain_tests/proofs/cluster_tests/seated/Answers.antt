use Rattle.std.proofs.Common.{◌*◌, ◌∙◌, ap, sym}
use Rattle.std.specs.Prelude.{replicate}
use Rattle.std.proofs.lemmas.List.{length-replicate}
use Rattle.local_store.specs.About.{About}
use Rattle.chain_tests.proofs.cluster_tests.seated.Goals as goal

pub new-node-requires-clause-keeps : goal.new-node-requires-clause-keeps
new-node-requires-clause-keeps g c = λ premise.
    let volume = replicate (4096 * c.sizes-geometry.result.blocks) 0 in
    let long = length-replicate (4096 * c.sizes-geometry.result.blocks) 0 ∙ ap (λ (a : About). 4096 * a.geometry.blocks) (sym (c.of-store.ensures.about ∙ c.in-Ok.ensures.about)) in
    (volume, c.of-store.ensures.kept premise volume (c.in-Ok.ensures.stored premise), long)
