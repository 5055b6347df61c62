use Rattle.std.proofs.Common.{◌*◌, ◌∙◌, ap, sym}
use Rattle.local_store.specs.About.{About}
use Rattle.managing.proofs.orders.seated.Goals as goal

pub join-node-requires-clause-keeps : goal.join-node-requires-clause-keeps
join-node-requires-clause-keeps g c = λ premise.
    let (volume, keeps, long) = c.into_store.ensures.runs.keeps premise in
    (volume, c.of-store.ensures.kept premise volume keeps, long ∙ ap (λ (a : About). 4096 * a.geometry.blocks) (sym c.of-store.ensures.about))

pub new-node-requires-clause-keeps : goal.new-node-requires-clause-keeps
new-node-requires-clause-keeps g c = λ premise.
    let (volume, keeps, long) = c.into_store.ensures.runs.keeps premise in
    (volume, c.of-store.ensures.kept premise volume keeps, long ∙ ap (λ (a : About). 4096 * a.geometry.blocks) (sym c.of-store.ensures.about))
