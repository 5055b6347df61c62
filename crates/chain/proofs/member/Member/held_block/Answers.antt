use Rattle.disk_model.specs.Moments.{started}
use Rattle.local_store.specs.About.{meaning_with}
use Rattle.local_store.specs.Meaning.{Means}
use Rattle.chain.proofs.member.Member.held_block.Goals as goal

pub returns-then-is_some-clause-any_moment : goal.returns-then-is_some-clause-any_moment
returns-then-is_some-clause-any_moment g c = λ premise volume keep.
    started g.S.StoreLike.moment g.S.StoreLike.may_have_left_since c.args.self.now.node.store (Means (meaning_with (g.S.StoreLike.about c.args.self.now.node.store) volume))
    (λ d left. g.met.S.StoreLike.means_now premise c.args.self.now.node.store volume d keep (g.met.S.StoreLike.only_now premise c.args.self.now.node.store d left))
