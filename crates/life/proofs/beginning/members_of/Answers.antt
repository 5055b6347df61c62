use Rattle.std.proofs.Common.{◌++◌, [], ◌∷◌, map, take, get_or, ap, sym, ◌∙◌, arith}
use Rattle.std.proofs.lemmas.List.{map-append, take_all, take_more}
use Rattle.chain.specs.Opening.{recorded_in}
use Rattle.life.proofs.beginning.members_of.Goals as goal

pub loop-store-init : goal.loop-store-init
loop-store-init g c = record { are = c.in_ok-members.ensures.items; count = c.in_ok-members.ensures.len; room = omega (arith, c.in_ok-members.ensures.capacity) }

pub push_reserved-requires : goal.push_reserved-requires
push_reserved-requires g c = omega (arith, c.loop-store.invariant.count, c.loop-store.invariant.room, c.loop-store-test.true)

pub loop-store-preserved : goal.loop-store-preserved
loop-store-preserved g c =
    let inv = c.loop-store.invariant in
    let f = recorded_in g.S.StoreLike.about in
    let i = c.loop-store.store-index in
    let xs = c.args.stores.now in
    let store = c.store-item.result in
    record {
      are = c.push_reserved.ensures.items
          ∙ ap (λ l. l ++ c.member_of.result ∷ []) inv.are
          ∙ ap (λ m. map f (take i xs) ++ m ∷ []) c.member_of.ensures
          ∙ ap (λ s. map f (take i xs) ++ f s ∷ []) c.store-item.is
          ∙ sym (ap (map f) (take_more xs i store c.loop-store-test.true) ∙ map-append f (take i xs) (get_or xs i store ∷ []));
      count = omega (arith, inv.count, c.push_reserved.ensures.len);
      room = omega (arith, inv.room, c.push_reserved.ensures.capacity);
    }

pub returns : goal.returns
returns g c = c.loop-store.invariant.are ∙ ap (map (recorded_in g.S.StoreLike.about)) (take_all c.loop-store.store-index c.args.stores.now c.loop-store-test.false)
