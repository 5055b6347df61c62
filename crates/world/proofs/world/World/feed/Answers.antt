use Rattle.std.proofs.Common.{arith}
use Rattle.world.proofs.FeedSteps.{at_member, fed_or_not, feed_feeds, feed_joined, feed_known, feed_one_volume, queue_at}
use Rattle.world.proofs.ReceptionSteps.{nothing_happens}
use Rattle.world.proofs.world.World.feed.Goals as goal

pub returns-in_err-at-clause-one_volume : goal.returns-in_err-at-clause-one_volume
returns-in_err-at-clause-one_volume g c = rw c.from_residual.ensures (nothing_happens g.S.StoreLike.about g.S.StoreLike.keeps g.S.StoreLike.may_leave_now c.args.self.now)

pub index_mut-requires : goal.index_mut-requires
index_mut-requires g c = omega (arith, at_member _ c.args.id c.in_ok-at.at c.self.invariant c.in_ok-at.ensures.found)

pub invariant_of-self : goal.invariant_of-self
invariant_of-self g c =
    let queue = c.index_mut.result.now in
    let here = queue_at _ c.args.id c.in_ok-at.at queue c.self.invariant c.in_ok-at.ensures.found c.index_mut.ensures.value in
    feed_joined _ c.args.id c.args.piece.now c.in_ok-at.at queue c.feed_to.new.queue c.feed_to.new.clients here _
    (fed_or_not c.args.id c.args.piece.now c.self.inside.clients c.feed_to.new.clients queue c.feed_to.new.queue c.feed_to.result c.feed_to.ensures.fed c.feed_to.ensures.none c.feed_to.ensures.err) c.self.invariant

pub returns-clause-fed : goal.returns-clause-fed
returns-clause-fed g c =
    let queue = c.index_mut.result.now in
    let here = queue_at _ c.args.id c.in_ok-at.at queue c.self.invariant c.in_ok-at.ensures.found c.index_mut.ensures.value in
    rw (← c.self.view_is) (feed_feeds _ c.args.id c.args.piece.now c.in_ok-at.at queue c.feed_to.new.queue c.feed_to.new.clients here c.feed_to.result c.in_ok-at.ensures.found c.feed_to.ensures.fed)

pub returns-clause-one_volume : goal.returns-clause-one_volume
returns-clause-one_volume g c =
    let queue = c.index_mut.result.now in
    let here = queue_at _ c.args.id c.in_ok-at.at queue c.self.invariant c.in_ok-at.ensures.found c.index_mut.ensures.value in
    rw (← c.self.view_is) (feed_one_volume _ c.args.id c.args.piece.now c.in_ok-at.at queue c.feed_to.new.queue c.feed_to.new.clients here g.S.StoreLike.about g.S.StoreLike.keeps g.S.StoreLike.may_leave_now _
    (fed_or_not c.args.id c.args.piece.now c.self.inside.clients c.feed_to.new.clients queue c.feed_to.new.queue c.feed_to.result c.feed_to.ensures.fed c.feed_to.ensures.none c.feed_to.ensures.err))

pub returns-clause-known : goal.returns-clause-known
returns-clause-known g c = rw (← c.self.view_is) (feed_known c.self.inside.clients.clients c.args.id c.in_ok-at.at c.feed_to.result c.in_ok-at.ensures.found)
