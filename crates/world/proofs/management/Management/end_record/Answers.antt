use Rattle.std.proofs.Common.{◌≡◌, refl, sym, ◌∙◌}
use Rattle.std.specs.Prelude.{Some}
use Rattle.world.proofs.InnerSteps.{rests_so}
use Rattle.world.proofs.ManagingSteps.{held_still, manager_holds}
use Rattle.world.proofs.management.Management.end_record.Goals as goal

pub returns-then-not-next_is_record-clause-any_moment : goal.returns-then-not-next_is_record-clause-any_moment
returns-then-not-next_is_record-clause-any_moment g c = λ keeps settled.
    held_still g.D.Disk.moment g.D.Disk.may_have_left_since c.args.self.now.config c.args.world.now.chain.writing c.args.self.now.disk (g.met.D.Disk.only_now keeps c.args.self.now.disk) settled

pub returns-then-not-next_is_record-clause-one_volume : goal.returns-then-not-next_is_record-clause-one_volume
returns-then-not-next_is_record-clause-one_volume g c = λ premise. rests_so _ _ _ _ _ refl

pub returns-in_err-next-clause-any_moment : goal.returns-in_err-next-clause-any_moment
returns-in_err-next-clause-any_moment g c = λ keeps settled.
    held_still g.D.Disk.moment g.D.Disk.may_have_left_since c.args.self.now.config c.args.world.now.chain.writing c.args.self.now.disk (g.met.D.Disk.only_now keeps c.args.self.now.disk) settled

pub returns-in_err-next-clause-one_volume : goal.returns-in_err-next-clause-one_volume
returns-in_err-next-clause-one_volume g c = λ premise. rests_so _ _ _ _ _ refl

pub returns-in_err-record-clause-any_moment : goal.returns-in_err-record-clause-any_moment
returns-in_err-record-clause-any_moment g c = λ keeps settled.
    let begun : c.args.world.now.chain.writing ≡ Some c.in-Some.next = sym c.in_ok-next.ensures.value ∙ c.in-Some.is in
    manager_holds g.D.Disk.moment g.D.Disk.may_have_left_since g.D.Disk.gives g.D.Disk.may_leave_now _ c.args.self.now c.self.view_is c.record.new.disk c.args.world.now.chain.writing c.in-Some.next begun (c.record.ensures.any_moment keeps) settled

pub returns-in_err-record-clause-one_volume : goal.returns-in_err-record-clause-one_volume
returns-in_err-record-clause-one_volume g c = λ premise. rests_so _ _ _ _ _ refl

pub returns-clause-any_moment : goal.returns-clause-any_moment
returns-clause-any_moment g c = λ keeps settled.
    let begun : c.args.world.now.chain.writing ≡ Some c.in-Some.next = sym c.in_ok-next.ensures.value ∙ c.in-Some.is in
    manager_holds g.D.Disk.moment g.D.Disk.may_have_left_since g.D.Disk.gives g.D.Disk.may_leave_now _ c.args.self.now c.self.view_is c.record.new.disk c.args.world.now.chain.writing c.in-Some.next begun (c.record.ensures.any_moment keeps) settled
