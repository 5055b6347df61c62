use Rattle.std.proofs.Common.{◌≡◌, ◌<◌, ap, subst, sym, ◌∙◌, [], ◌∷◌, Bor, List, length, arith, rules, Global}
use Rattle.std.specs.declared.collections.VecDeque.{VecDeque}
use Rattle.std.specs.Prelude.{IfSome, None, Option, Some, is_some, nat_lt, slice_index_or}
use Rattle.std.proofs.lemmas.List.{get_or-map, length-map}
use Rattle.chain_steps.specs.declared.message.Envelope.{Envelope}
use Rattle.chain.specs.Links.{link_at}
use Rattle.chain.proofs.Linkages.{at_place}
use Rattle.chain.proofs.links.Links.first.Goals as goal

-- what is in a queue
abbrev items_of : VecDeque Envelope Global → List Envelope
items_of queue = queue.items

-- what stands at the front is the first
first_is : (queue : List Envelope) (front : Option (Bor Envelope)) → is_some front ≡ nat_lt 0 (length queue) → IfSome front (λ e. e.now ≡ slice_index_or queue 0 e.now) → IfSome front (λ e. (rest : List Envelope) × (queue ≡ e.now ∷ rest))
first_is queue None some is = record {}
first_is [] (Some e) some is = absurd cc
first_is (x ∷ queue) (Some e) some is = (queue, ap (λ y. y ∷ queue) (sym is))

pub returns-clause-some : goal.returns-clause-some
returns-clause-some c =
    let to_lt : c.args.to < 8 = search rules in
    let queue = c.index.result.now in
    let items = c.self.inside.queues.items in
    let within : c.place_of.result < length items = omega (arith, c.self.invariant, length-map items items_of, c.place_of.ensures.within) in
    let there : slice_index_or c.args.self.now c.place_of.result [] ≡ queue.items =
    ap (λ l. slice_index_or l c.place_of.result []) (sym c.self.view_is) ∙ get_or-map items_of items c.place_of.result queue [] within ∙ ap items_of (sym c.index.ensures) in
    let is : link_at c.args.self.now c.args.from c.args.to ≡ queue.items = at_place c.args.self.now c.args.from c.args.to to_lt ∙ ap (λ n. slice_index_or c.args.self.now n []) (sym c.place_of.ensures.place) ∙ there in
    subst (λ q. IfSome c.front.result (λ (e : Bor Envelope). (rest : List Envelope) × (q ≡ e.now ∷ rest))) (sym is) (first_is queue.items c.front.result c.front.ensures.item.0 c.front.ensures.lookup)
