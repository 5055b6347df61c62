use Rattle.world.proofs.CallSteps.{silent_takes}
use Rattle.world.proofs.StoppingSteps.{away_same, store_stays, submitted_stays}
use Rattle.world.proofs.asking.ask_write.Goals as goal

pub returns-in-Ok-clause-takes : goal.returns-in-Ok-clause-takes
returns-in-Ok-clause-takes g c = λ premise. silent_takes _ _ _ _ _ c.new.ensures.items (c.in-Ok.ensures.takes premise)

pub returns-in-Ok-clause-any_moment : goal.returns-in-Ok-clause-any_moment
returns-in-Ok-clause-any_moment g c = λ premise. submitted_stays g.S.StoreLike.about g.S.StoreLike.keeps g.S.StoreLike.may_leave_now g.S.StoreLike.moment g.S.StoreLike.may_have_left_since (g.met.S.StoreLike.means_now premise) (g.met.S.StoreLike.only_now premise)
    c.args.at _ _ c.args.token c.args.write c.in-Ok.ensures.submitted

pub returns-in-Err-clause-any_moment : goal.returns-in-Err-clause-any_moment
returns-in-Err-clause-any_moment g c = λ premise. store_stays g.S.StoreLike.about g.S.StoreLike.keeps g.S.StoreLike.may_leave_now g.S.StoreLike.moment g.S.StoreLike.may_have_left_since (g.met.S.StoreLike.means_now premise) (g.met.S.StoreLike.only_now premise)
    c.args.at _ _ _ (λ m n did. away_same _ _ _ _ m n did) c.in-Err.ensures.refused
