use Rattle.std.proofs.Common.{refl}
use Rattle.chain.proofs.CommitSteps.{by_some, err_then, ok_none, ok_some, rests_leaves, works_formed, works_lead, works_leaves}
use Rattle.chain.proofs.HoldingSteps.{block_works, lost_stopped, lost_works, seen_lost}
use Rattle.chain.proofs.Stepping.{formed_still, read_at, rests, same_then}
use Rattle.chain.proofs.chain.Chain.held_block.Goals as goal

pub invariant_of-self : goal.invariant_of-self
invariant_of-self g c =
    let here = read_at _ _ c.args.at _ c.self.view_is c.requires.within c.index_mut.ensures.value in
    by_some c.held_block.result _ _ _ c.held_block.ensures.given c.held_block.ensures.idle c.held_block.ensures.stopped
    (λ bytes did. works_formed g.S.StoreLike.about g.S.StoreLike.keeps g.S.StoreLike.may_leave_now _ c.args.at _ here _ _ (block_works _ _ _ _ _ _ _ _ _ _ did) c.self.invariant)
    (λ idle. formed_still _ c.args.at _ _ here _ idle.1 c.self.invariant)
    (λ replies did. works_formed g.S.StoreLike.about g.S.StoreLike.keeps g.S.StoreLike.may_leave_now _ c.args.at _ here _ _ (lost_works _ _ _ _ _ _ _ _ _ did) c.self.invariant)

pub returns-clause-given : goal.returns-clause-given
returns-clause-given g c = rw (← c.self.view_is) (ok_some c.held_block.result _ _ c.held_block.ensures.given (λ bytes did. record {
  before = c.index_mut.result.now;
  after = c.held_block.new.self;
  here = read_at _ _ c.args.at _ c.self.view_is c.requires.within c.index_mut.ensures.value;
  did = did;
  are = refl;
}))

pub returns-clause-idle : goal.returns-clause-idle
returns-clause-idle g c = rw (← c.self.view_is) (
    let here = read_at _ _ c.args.at _ c.self.view_is c.requires.within c.index_mut.ensures.value in
    ok_none c.held_block.result _ _ c.held_block.ensures.idle (λ idle. record { member = c.index_mut.result.now; here = here; stopped = idle.0; same = same_then _ c.args.at _ _ here idle.1 }))

pub returns-clause-stopped : goal.returns-clause-stopped
returns-clause-stopped g c = rw (← c.self.view_is) (err_then c.held_block.result _ _ c.held_block.ensures.stopped (λ replies did. record {
  before = c.index_mut.result.now;
  after = c.held_block.new.self;
  here = read_at _ _ c.args.at _ c.self.view_is c.requires.within c.index_mut.ensures.value;
  did = did;
  are = refl;
}))

pub returns-clause-any_moment : goal.returns-clause-any_moment
returns-clause-any_moment g c = λ premise. rw (← c.self.view_is) (
    let here = read_at _ _ c.args.at _ c.self.view_is c.requires.within c.index_mut.ensures.value in
    by_some c.held_block.result _ _ _ c.held_block.ensures.given c.held_block.ensures.idle c.held_block.ensures.stopped
    (λ bytes did. works_leaves g.S.StoreLike.about g.S.StoreLike.keeps g.S.StoreLike.may_leave_now _ c.args.at _ here _ _ (block_works _ _ _ _ _ _ _ _ _ _ did) g.S.StoreLike.moment g.S.StoreLike.may_have_left_since (record { kept = λ volume keep runs. did.only_read.kept premise volume keep; run = c.held_block.ensures.any_moment premise }))
    (λ idle. rests_leaves g.S.StoreLike.about g.S.StoreLike.keeps g.S.StoreLike.may_leave_now _ c.args.at _ here g.S.StoreLike.moment g.S.StoreLike.may_have_left_since _ idle.1 (g.met.S.StoreLike.only_now premise) (c.held_block.ensures.any_moment premise))
    (λ replies did. works_leaves g.S.StoreLike.about g.S.StoreLike.keeps g.S.StoreLike.may_leave_now _ c.args.at _ here _ _ (lost_works _ _ _ _ _ _ _ _ _ did) g.S.StoreLike.moment g.S.StoreLike.may_have_left_since (record { kept = λ volume keep runs. lost_stopped _ _ _ _ _ _ _ _ _ did runs; run = c.held_block.ensures.any_moment premise })))

pub returns-clause-one_volume : goal.returns-clause-one_volume
returns-clause-one_volume g c = λ premise v s events shows stands put_out. rw (← c.self.view_is) (
    let here = read_at _ _ c.args.at _ c.self.view_is c.requires.within c.index_mut.ensures.value in
    seen_lost _ c.held_block.result _ _ _ events c.held_block.ensures.given c.held_block.ensures.idle c.held_block.ensures.stopped put_out
    (λ bytes did out. works_lead g.S.StoreLike.about g.S.StoreLike.keeps g.S.StoreLike.may_leave_now _ c.args.at _ here _ _ (block_works _ _ _ _ _ _ _ _ _ _ did) g.S.StoreLike.moment g.S.StoreLike.may_have_left_since (record { kept = λ volume keep runs. did.only_read.kept premise volume keep; run = c.held_block.ensures.any_moment premise }) v events (g.met.S.StoreLike.counts_now premise) (rw c.self.view_is shows) out)
    (λ idle out. rests g.S.StoreLike.about g.S.StoreLike.keeps g.S.StoreLike.may_leave_now _ _ v events (same_then _ c.args.at _ _ here idle.1) (rw c.self.view_is shows) out)
    (λ replies did out. works_lead g.S.StoreLike.about g.S.StoreLike.keeps g.S.StoreLike.may_leave_now _ c.args.at _ here _ _ (lost_works _ _ _ _ _ _ _ _ _ did) g.S.StoreLike.moment g.S.StoreLike.may_have_left_since (record { kept = λ volume keep runs. lost_stopped _ _ _ _ _ _ _ _ _ did runs; run = c.held_block.ensures.any_moment premise }) v events (g.met.S.StoreLike.counts_now premise) (rw c.self.view_is shows) out))
