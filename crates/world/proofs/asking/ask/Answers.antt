use Rattle.world.proofs.CallSteps.{demand_takes, if_demand_takes, silent_takes}
use Rattle.world.proofs.StoppingSteps.{away_same, flushed_same, store_stays}
use Rattle.world.proofs.asking.ask.Goals as goal

pub returns-in-Ok-clause-takes : goal.returns-in-Ok-clause-takes
returns-in-Ok-clause-takes g c = λ premise. rw c.took.ensures (demand_takes _ _ _ _ _ _ c.in-Read.is (c.in-Ok.ensures.takes premise))

pub returns-in-Ok-flush-clause-takes : goal.returns-in-Ok-flush-clause-takes
returns-in-Ok-flush-clause-takes g c = λ premise. demand_takes _ _ _ _ _ _ c.in-Flush.is (silent_takes _ _ _ _ _ c.new.ensures.items (c.in-Ok-flush.ensures.takes premise))

pub returns-in-Write-clause-takes : goal.returns-in-Write-clause-takes
returns-in-Write-clause-takes g c = λ premise. if_demand_takes g.S.StoreLike.about g.S.StoreLike.keeps g.S.StoreLike.may_leave_now _ c.args.at _ _ _ c.args.demand _ c.in-Write.is (c.ask_write.ensures.takes premise)

pub returns-in-Fua-clause-takes : goal.returns-in-Fua-clause-takes
returns-in-Fua-clause-takes g c = λ premise. if_demand_takes g.S.StoreLike.about g.S.StoreLike.keeps g.S.StoreLike.may_leave_now _ c.args.at _ _ _ c.args.demand _ c.in-Fua.is (c.ask_write-in-Fua.ensures.takes premise)

pub returns-in-Ok-flush-clause-any_moment : goal.returns-in-Ok-flush-clause-any_moment
returns-in-Ok-flush-clause-any_moment g c = λ premise. store_stays g.S.StoreLike.about g.S.StoreLike.keeps g.S.StoreLike.may_leave_now g.S.StoreLike.moment g.S.StoreLike.may_have_left_since (g.met.S.StoreLike.means_now premise) (g.met.S.StoreLike.only_now premise)
    c.args.at _ _ _ (λ m n did. flushed_same _ m n did) c.in-Ok-flush.ensures.flushed

pub returns-in-Err-flush-clause-any_moment : goal.returns-in-Err-flush-clause-any_moment
returns-in-Err-flush-clause-any_moment g c = λ premise. store_stays g.S.StoreLike.about g.S.StoreLike.keeps g.S.StoreLike.may_leave_now g.S.StoreLike.moment g.S.StoreLike.may_have_left_since (g.met.S.StoreLike.means_now premise) (g.met.S.StoreLike.only_now premise)
    c.args.at _ _ _ (λ m n did. away_same _ _ _ _ m n did) c.in-Err-flush.ensures.refused
