use Rattle.std.proofs.Common.{subst}
use Rattle.disk_model.specs.Disk.{LeavesOnly}
use Rattle.local_store.specs.Meaning.{Means}
use Rattle.local_store.specs.Store.{IsStored, State, meaning_in}
use Rattle.local_store.proofs.Stored.{at_rest}
use Rattle.local_store.specs.Lending.{HoldsHome, IsHomeKept}
use Rattle.local_store.proofs.HomeHalf.{home_at_rest}
use Rattle.local_store.proofs.contents.Contents.tick.Goals as goal

pub returns-in_default-clause-any_moment : goal.returns-in_default-clause-any_moment
returns-in_default-clause-any_moment g c = λ keeps v.
    subst (λ (s : State). IsStored s v (g.D.Disk.gives c.args.disk.now) (g.D.Disk.may_leave_now c.args.disk.now) → LeavesOnly g.D.Disk.moment g.D.Disk.may_have_left_since c.args.disk.now c.args.disk.now (Means (meaning_in s v))) c.self.view_is
    (λ was. at_rest c.args.disk.now c.self.invariant.journal was (g.met.D.Disk.only_now keeps c.args.disk.now))

pub returns-clause-home : goal.returns-clause-home
returns-clause-home g c = (c.in-Some.ensures.next, rw c.next_pending.ensures.same at c.in_ok-bring_home.ensures.ok, c.in-Some.ensures.given)

pub returns-clause-stored : goal.returns-clause-stored
returns-clause-stored g c = λ keeps v was. c.in_ok-bring_home.ensures.stored keeps v (rw c.next_pending.ensures.same was)

pub returns-clause-any_moment : goal.returns-clause-any_moment
returns-clause-any_moment g c = λ keeps v was.
    subst (λ (s : State). LeavesOnly g.D.Disk.moment g.D.Disk.may_have_left_since c.args.disk.now c.bring_home.new.disk (Means (meaning_in s v))) c.next_pending.ensures.same
    (c.bring_home.ensures.any_moment keeps v (rw c.next_pending.ensures.same was))

pub returns-in_err-bring_home-clause-any_moment : goal.returns-in_err-bring_home-clause-any_moment
returns-in_err-bring_home-clause-any_moment g c = λ keeps v was.
    subst (λ (s : State). LeavesOnly g.D.Disk.moment g.D.Disk.may_have_left_since c.args.disk.now c.bring_home.new.disk (Means (meaning_in s v))) c.next_pending.ensures.same
    (c.bring_home.ensures.any_moment keeps v (rw c.next_pending.ensures.same was))

pub returns-in_default-clause-home_moment : goal.returns-in_default-clause-home_moment
returns-in_default-clause-home_moment g c = λ keeps v batches.
    subst (λ (s : State). IsHomeKept s v batches (g.D.Disk.gives c.args.disk.now) (g.D.Disk.may_leave_now c.args.disk.now) → LeavesOnly g.D.Disk.moment g.D.Disk.may_have_left_since c.args.disk.now c.args.disk.now (HoldsHome s v batches)) c.self.view_is
    (λ was. home_at_rest c.args.disk.now was (g.met.D.Disk.only_now keeps c.args.disk.now))

pub returns-clause-home_moment : goal.returns-clause-home_moment
returns-clause-home_moment g c = λ keeps v batches was.
    subst (λ (s : State). LeavesOnly g.D.Disk.moment g.D.Disk.may_have_left_since c.args.disk.now c.bring_home.new.disk (HoldsHome s v batches)) c.next_pending.ensures.same
    (c.bring_home.ensures.home_moment keeps v batches (rw c.next_pending.ensures.same was))

pub returns-in_err-bring_home-clause-home_moment : goal.returns-in_err-bring_home-clause-home_moment
returns-in_err-bring_home-clause-home_moment g c = λ keeps v batches was.
    subst (λ (s : State). LeavesOnly g.D.Disk.moment g.D.Disk.may_have_left_since c.args.disk.now c.bring_home.new.disk (HoldsHome s v batches)) c.next_pending.ensures.same
    (c.bring_home.ensures.home_moment keeps v batches (rw c.next_pending.ensures.same was))

pub returns-clause-home_kept : goal.returns-clause-home_kept
returns-clause-home_kept g c = λ keeps v batches was. c.in_ok-bring_home.ensures.home_kept keeps v batches (rw c.next_pending.ensures.same was)
