use Rattle.std.proofs.lemmas.Option.{IfSome_then}
use Rattle.cluster.proofs.Lent.{lent_next}
use Rattle.cluster.proofs.seated.Seated.begin.Goals as goal

pub returns-in-Ok-clause-lent : goal.returns-in-Ok-clause-lent
returns-in-Ok-clause-lent g c = IfSome_then c.lend_commit-replies.result.1 c.lend_commit-replies.ensures.lent
    (λ work lent. lent_next _ _ _ _ _ _ _ _ work.loan _ lent c.add.ensures.replies c.in-Ok.field-0 c.in-Ok.ensures.due c.in-Ok.ensures.idle)
