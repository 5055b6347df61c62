use Rattle.std.proofs.Common.{subst}
use Rattle.disk_model.specs.Disk.{LeavesOnly}
use Rattle.disk_model.specs.Moments.{then_run}
use Rattle.local_store.specs.Meaning.{Means}
use Rattle.local_store.specs.Store.{IsStored, State, meaning_in}
use Rattle.local_store.proofs.Stored.{at_rest}
use Rattle.local_store.proofs.contents.Contents.checkpoint.Goals as goal

pub returns-then-is_full-clause-any_moment : goal.returns-then-is_full-clause-any_moment
returns-then-is_full-clause-any_moment g c = λ keeps v.
    subst (λ (s : State). IsStored s v (g.D.Disk.gives c.args.disk.now) (g.D.Disk.may_leave_now c.args.disk.now) → LeavesOnly g.D.Disk.moment g.D.Disk.may_have_left_since c.args.disk.now c.args.disk.now (Means (meaning_in s v))) c.self.view_is
    (λ was. at_rest c.args.disk.now c.self.invariant.journal was (g.met.D.Disk.only_now keeps c.args.disk.now))

pub returns-clause-stored : goal.returns-clause-stored
returns-clause-stored g c = λ keeps v was. c.change_area.ensures.stored keeps v (c.in_ok-bring_all_home.ensures.stored keeps v was)

pub returns-clause-any_moment : goal.returns-clause-any_moment
returns-clause-any_moment g c = λ keeps v was.
    then_run g.D.Disk.moment g.D.Disk.may_have_left_since c.args.disk.now c.bring_all_home.new.disk c.change_area.new.disk _ (c.bring_all_home.ensures.any_moment keeps v was)
    (subst (λ (s : State). LeavesOnly g.D.Disk.moment g.D.Disk.may_have_left_since c.bring_all_home.new.disk c.change_area.new.disk (Means (meaning_in s v))) c.in_ok-bring_all_home.ensures.same
    (c.change_area.ensures.any_moment keeps v (c.in_ok-bring_all_home.ensures.stored keeps v was)))
