use Rattle.std.proofs.Common.{refl, ◌∙◌}
use Rattle.std.proofs.lemmas.List.{map-set}
use Rattle.chain.proofs.links.Links.exchange.Goals as goal

pub returns-clause-link : goal.returns-clause-link
returns-clause-link c =
    map-set (λ queue. queue.items) c.self.inside.queues.items c.place_of.result c.swap.new.x
    ∙ rw (c.self.view_is, c.place_of.ensures.place, c.swap.ensures.x_after) refl
