use Rattle.std.proofs.Common.{List, [], ◌∷◌, ◌++◌, map, take, ap, sym, ◌∙◌}
use Rattle.std.proofs.lemmas.List.{map_more, take_all}
use Rattle.recovery.specs.declared.returned.Returned.{Returned}
use Rattle.folder.specs.Found.{returned_as}
use Rattle.folder.proofs.chosen.all_returned.Goals as goal

pub loop-one-preserved : goal.loop-one-preserved
loop-one-preserved g c =
    let told = returned_as g.S.StoreLike.about in
    let i = c.loop-one.one-index in
    c.in_ok-push.ensures.items
    ∙ ap (λ (l : List Returned). l ++ c.returned_by.result ∷ []) c.loop-one.invariant
    ∙ ap (λ (r : Returned). map told (take i c.args.found.now) ++ r ∷ []) (c.returned_by.ensures ∙ ap told c.one-item.is)
    ∙ sym (map_more told c.args.found.now i c.one-item.result c.loop-one-test.true)

pub returns : goal.returns
returns g c = c.loop-one.invariant ∙ ap (map (returned_as g.S.StoreLike.about)) (take_all c.loop-one.one-index c.args.found.now c.loop-one-test.false)
