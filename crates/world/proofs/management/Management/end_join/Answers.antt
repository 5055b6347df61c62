use Rattle.std.proofs.Common.{◌∙◌, refl, subst, sym}
use Rattle.disk_model.specs.Disk.{LeavesOnly}
use Rattle.world.specs.Management.{Managing}
use Rattle.world.proofs.InnerSteps.{rests_so}
use Rattle.world.proofs.ManagingSteps.{HoldsEither, held_still, held_writing}
use Rattle.world.proofs.management.Management.end_join.Goals as goal

pub returns-then-not-next_is_record-clause-any_moment : goal.returns-then-not-next_is_record-clause-any_moment
returns-then-not-next_is_record-clause-any_moment g c = λ keeps settled.
    held_still g.D.Disk.moment g.D.Disk.may_have_left_since c.args.self.now.config c.args.world.now.chain.writing c.args.self.now.disk (g.met.D.Disk.only_now keeps c.args.self.now.disk) settled

pub returns-then-not-next_is_record-clause-one_volume : goal.returns-then-not-next_is_record-clause-one_volume
returns-then-not-next_is_record-clause-one_volume g c = λ premise. rests_so _ _ _ _ _ refl

pub returns-in_err-next-clause-any_moment : goal.returns-in_err-next-clause-any_moment
returns-in_err-next-clause-any_moment g c = λ keeps settled.
    held_still g.D.Disk.moment g.D.Disk.may_have_left_since c.args.self.now.config c.args.world.now.chain.writing c.args.self.now.disk (g.met.D.Disk.only_now keeps c.args.self.now.disk) settled

pub returns-in_err-next-clause-one_volume : goal.returns-in_err-next-clause-one_volume
returns-in_err-next-clause-one_volume g c = λ premise. rests_so _ _ _ _ _ refl

pub returns-in_err-record_once-clause-any_moment : goal.returns-in_err-record_once-clause-any_moment
returns-in_err-record_once-clause-any_moment g c = λ keeps settled.
    held_writing g.D.Disk.moment g.D.Disk.may_have_left_since c.args.self.now.config c.args.world.now.chain.writing c.args.self.now.disk c.record_once.new.self.disk c.in-Some.next (sym c.in_ok-next.ensures.value ∙ c.in-Some.is)
    (c.record_once.ensures.any_moment keeps settled)

pub returns-in_err-record_once-clause-one_volume : goal.returns-in_err-record_once-clause-one_volume
returns-in_err-record_once-clause-one_volume g c = λ premise. rests_so _ _ _ _ _ refl

pub returns-in_err-end_join-clause-any_moment : goal.returns-in_err-end_join-clause-any_moment
returns-in_err-end_join-clause-any_moment g c = λ keeps settled.
    held_writing g.D.Disk.moment g.D.Disk.may_have_left_since c.args.self.now.config c.args.world.now.chain.writing c.args.self.now.disk c.record_once.new.self.disk c.in-Some.next (sym c.in_ok-next.ensures.value ∙ c.in-Some.is)
    (c.record_once.ensures.any_moment keeps settled)

pub returns-clause-any_moment : goal.returns-clause-any_moment
returns-clause-any_moment g c = λ keeps settled.
    subst (λ (m : Managing g.row.D.Denot). LeavesOnly g.D.Disk.moment g.D.Disk.may_have_left_since c.args.self.now.disk m.disk (HoldsEither g.D.Disk.moment g.D.Disk.may_have_left_since c.args.self.now.config c.args.world.now.chain.writing)) (sym c.self-2.view_is)
    (held_writing g.D.Disk.moment g.D.Disk.may_have_left_since c.args.self.now.config c.args.world.now.chain.writing c.args.self.now.disk c.record_once.new.self.disk c.in-Some.next (sym c.in_ok-next.ensures.value ∙ c.in-Some.is)
    (c.record_once.ensures.any_moment keeps settled))
