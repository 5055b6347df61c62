use Rattle.std.proofs.Common.{◌∙◌, ap}
use Rattle.mail.specs.Given.{flat}
use Rattle.cluster.proofs.Orders.{flat_map}
use Rattle.cluster.proofs.seated.Seated.fetch.Goals as goal

pub returns-then-is_empty-clause-fetched : goal.returns-then-is_empty-clause-fetched
returns-then-is_empty-clause-fetched g c = λ nothing.
    (c.take_up.ensures ∙ flat_map (λ bundle. bundle.items) c.fetch.new.bundles.items ∙ ap (flat (λ bundle. bundle)) c.fetch.ensures.fetched, c.fetch.ensures.left)
