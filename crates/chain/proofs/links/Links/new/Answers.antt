use Rattle.std.proofs.Common.{◌≡◌, ◌++◌, ◌∷◌, [], List, ap, sym, ◌∙◌, length, map, replicate, vec_len, arith, rules}
use Rattle.std.proofs.lemmas.List.{length-replicate, map-append, replicate_more}
use Rattle.chain_steps.specs.declared.message.Envelope.{Envelope}
use Rattle.chain.proofs.links.Links.new.Goals as goal

pub loop-alloc-init : goal.loop-alloc-init
loop-alloc-init c = record {
  empty = ap (map (λ queue. queue.items)) c.in_ok-queues.ensures.items ∙ ap (λ n. replicate n []) (sym c.in_ok-queues.ensures.len);
  room = search rules;
  within = search rules;
}

pub push_reserved-requires : goal.push_reserved-requires
push_reserved-requires c = omega (arith, c.loop-alloc.invariant.room, c.loop-alloc-test.true, c.len.ensures)

pub loop-alloc-smaller : goal.loop-alloc-smaller
loop-alloc-smaller c = omega (arith, c.push_reserved.ensures.len, c.loop-alloc-test.true, c.len.ensures)

pub loop-alloc-preserved : goal.loop-alloc-preserved
loop-alloc-preserved c = record {
  empty = ap (map (λ queue. queue.items)) c.push_reserved.ensures.items
      ∙ map-append (λ queue. queue.items) c.loop-alloc.queues.items (c.new.result ∷ [])
      ∙ ap (λ (l : List (List Envelope)). l ++ c.new.result.items ∷ []) c.loop-alloc.invariant.empty
      ∙ ap (λ (r : List Envelope). replicate (vec_len c.loop-alloc.queues) [] ++ r ∷ []) c.new.ensures.items
      ∙ replicate_more (vec_len c.loop-alloc.queues) []
      ∙ ap (λ n. replicate n []) (sym c.push_reserved.ensures.len);
  room = search rules;
  within = search rules;
}

-- all links are there
empty_all : (c : goal.After-loop-alloc) → map (λ queue. queue.items) c.loop-alloc.queues.items ≡ replicate 64 []
empty_all c =
    let all : vec_len c.loop-alloc.queues ≡ 64 = omega (arith, c.loop-alloc.invariant.within, c.loop-alloc-test.false, c.len.ensures) in
    c.loop-alloc.invariant.empty ∙ ap (λ n. replicate n []) all

pub invariant_of-result : goal.invariant_of-result
invariant_of-result c =
    ap length (empty_all c) ∙ length-replicate {A = List Envelope} 64 []

pub returns : goal.returns
returns c = empty_all c
