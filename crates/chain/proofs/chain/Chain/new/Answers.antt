use Rattle.std.proofs.Common.{◌≡◌, ◌*◌, ◌<◌, length, map, refl, ap, subst, sym, ◌∙◌, arith}
use Rattle.std.proofs.lemmas.List.{length-map}
use Rattle.std.proofs.lemmas.Option.{slice_get_read}
use Rattle.configurations.specs.Record.{AreMembers, Record}
use Rattle.configurations.specs.declared.member.Member.{Member}
use Rattle.volume.specs.declared.geometry.Geometry.{Geometry}
use Rattle.chain.specs.Opening.{beginning_of, recorded_in, youngest_of}
use Rattle.chain.proofs.BeginningSteps.{begins, begun_formed}
use Rattle.chain.proofs.OpeningSteps.{all_unmapped, if_some, then_has, words_made}
use Rattle.chain.proofs.chain.Chain.new.Goals as goal

pub invariant_of-result : goal.invariant_of-result
invariant_of-result g c =
    let about = g.S.StoreLike.about in
    let told : Record = c.args.told in
    let are_members : AreMembers told.members = subst (λ (r : Record). AreMembers r.members) c.told.view_is c.told.invariant in
    let within : 0 < length c.args.stores.items = omega (arith, are_members.some, sym (ap length c.requires.recorded) ∙ length-map c.args.stores.items (recorded_in about)) in
    let here = slice_get_read c.args.stores.items _ 0 c.index-first.result.now refl within c.index-first.ensures in
    let even = then_has _ c.args.stores.items 0 _ here c.requires.even in
    begun_formed about c.in-Ok-new.board.id told _ c.args.stores.items refl (c.in-Ok-begin_all.ensures.members ∙ ap (λ id. map (beginning_of about id told) c.args.stores.items) c.board-2.ensures)
    c.in-Ok-new-2.ensures c.in-Ok-new-3.ensures c.requires.recorded (λ k d less. (even k d less).1 ∙ sym c.geometry-geometry.ensures)

pub returns-clause-sizes : goal.returns-clause-sizes
returns-clause-sizes g c =
    let about = g.S.StoreLike.about in
    let told : Record = c.args.told in
    let are_members : AreMembers told.members = subst (λ (r : Record). AreMembers r.members) c.told.view_is c.told.invariant in
    let within : 0 < length c.args.stores.items = omega (arith, are_members.some, sym (ap length c.requires.recorded) ∙ length-map c.args.stores.items (recorded_in about)) in
    let here = slice_get_read c.args.stores.items _ 0 c.index-first.result.now refl within c.index-first.ensures in
    if_some _ c.args.stores.items 0 _ here c.geometry-geometry.ensures

pub returns-clause-words : goal.returns-clause-words
returns-clause-words g c =
    let about = g.S.StoreLike.about in
    let told : Record = c.args.told in
    let are_members : AreMembers told.members = subst (λ (r : Record). AreMembers r.members) c.told.view_is c.told.invariant in
    let within : 0 < length c.args.stores.items = omega (arith, are_members.some, sym (ap length c.requires.recorded) ∙ length-map c.args.stores.items (recorded_in about)) in
    let here = slice_get_read c.args.stores.items _ 0 c.index-first.result.now refl within c.index-first.ensures in
    if_some _ c.args.stores.items 0 _ here
    (words_made c.in-Ok-new.board.words c.front-front.result (about c.index-first.result.now).front c.mask_of-mask.result c.gauges_of-gauges.result c.members.result.now c.members-2.result.now told.members
    c.in-Ok-new.ensures c.front-front.ensures.front c.mask_of-mask.ensures c.members.ensures.members c.gauges_of-gauges.ensures c.members-2.ensures.members)

pub returns-clause-begins : goal.returns-clause-begins
returns-clause-begins g c = λ premise volume keep.
    let about = g.S.StoreLike.about in
    let told : Record = c.args.told in
    let are_members : AreMembers told.members = subst (λ (r : Record). AreMembers r.members) c.told.view_is c.told.invariant in
    let within : 0 < length c.args.stores.items = omega (arith, are_members.some, sym (ap length c.requires.recorded) ∙ length-map c.args.stores.items (recorded_in about)) in
    let here = slice_get_read c.args.stores.items _ 0 c.index-first.result.now refl within c.index-first.ensures in
    let even = then_has _ c.args.stores.items 0 _ here c.requires.even in
    let are : c.in-Ok-begin_all.members.items ≡ map (beginning_of about c.in-Ok-new.board.id told) c.args.stores.items =
    c.in-Ok-begin_all.ensures.members ∙ ap (λ id. map (beginning_of about id told) c.args.stores.items) c.board-2.ensures in
    let front : c.in-Ok-new.board.words.front ≡ (about c.index-first.result.now).front = ap (λ w. w.front) c.in-Ok-new.ensures ∙ c.front-front.ensures.front in
    let words = words_made c.in-Ok-new.board.words c.front-front.result c.in-Ok-new.board.words.front c.mask_of-mask.result c.gauges_of-gauges.result c.members.result.now c.members-2.result.now told.members
    c.in-Ok-new.ensures (sym (ap (λ w. w.front) c.in-Ok-new.ensures)) c.mask_of-mask.ensures c.members.ensures.members c.gauges_of-gauges.ensures c.members-2.ensures.members in
    let incarnations = all_unmapped (λ (m : Member). 0 < m.incarnation) (recorded_in about) c.args.stores.items (rw c.requires.recorded c.requires.incarnations) in
    begins about c.in-Ok-new.board.id told g.S.StoreLike.keeps g.S.StoreLike.may_leave_now (4096 * c.geometry-geometry.result.blocks) c.in-Ok-new.board.words.front volume _ c.args.stores.items
    refl refl c.in-Ok-copy_of.ensures refl (c.youngest_of-youngest.ensures ∙ ap youngest_of c.members-3.ensures.members) c.in-Ok-new-2.ensures c.in-Ok-new-3.ensures are c.requires.recorded are_members words refl
    (λ k d less. record {
      front_is = (even k d less).0 ∙ sym front;
      incarnation = incarnations k d less;
      whole = g.met.S.StoreLike.keeps_size premise _ volume (keep k d less) ∙ ap (λ (geometry : Geometry). 4096 * geometry.blocks) ((even k d less).1 ∙ sym c.geometry-geometry.ensures);
      keeping = keep k d less;
      left = λ d may. g.met.S.StoreLike.means_now premise _ volume d (keep k _ less) may;
    })
