use Rattle.std.proofs.Common.{◌≡◌, ◌*◌, ◌∙◌, length, ap, refl, sym}
use Rattle.std.proofs.lemmas.List.{length-replicate}
use Rattle.local_store.specs.About.{About}
use Rattle.chain_tests.proofs.chain_core_tests.member.Goals as goal

pub new-requires-4-clause-keeps : goal.new-requires-4-clause-keeps
new-requires-4-clause-keeps g c =
    let store = c.in-Ok.store in
    let long : length store.volume ≡ 4096 * store.about.geometry.blocks =
    ap length c.in-Ok.ensures.volume ∙ length-replicate _ 0 ∙ ap (λ (a : About). 4096 * a.geometry.blocks) (sym c.in-Ok.ensures.about) in
    λ here. (store.volume, record { is = refl; size = long }, long)
