use Rattle.std.proofs.Common.{subst, sym}
use Rattle.std.specs.Prelude.{None}
use Rattle.disk_model.specs.Disk.{LeavesOnly}
use Rattle.disk_model.specs.Part.{inside}
use Rattle.configurations.specs.Store.{HoldsOldOrNew, IsSettledConfig}
use Rattle.world.specs.Management.{Managing}
use Rattle.world.proofs.ManagingSteps.{old_still}
use Rattle.world.proofs.management.Management.record_once.Goals as goal

pub returns-then-eq-clause-any_moment : goal.returns-then-eq-clause-any_moment
returns-then-eq-clause-any_moment g c = λ keeps settled.
    old_still g.D.Disk.moment g.D.Disk.may_have_left_since c.args.self.now.config None c.args.next c.args.self.now.disk (g.met.D.Disk.only_now keeps c.args.self.now.disk) settled

pub returns-clause-settled : goal.returns-clause-settled
returns-clause-settled g c = λ keeps settled.
    c.record.ensures.settled keeps (subst (λ (m : Managing g.row.D.Denot). IsSettledConfig m.config (g.D.Disk.gives m.disk) (g.D.Disk.may_leave_now m.disk)) (sym c.self.view_is) settled)

pub returns-clause-any_moment : goal.returns-clause-any_moment
returns-clause-any_moment g c = λ keeps settled.
    subst (λ (m : Managing g.row.D.Denot). LeavesOnly g.D.Disk.moment g.D.Disk.may_have_left_since m.disk c.record.new.disk (λ b. HoldsOldOrNew m.config.current c.args.next (inside m.config.pair.part b))) c.self.view_is
    (c.record.ensures.any_moment keeps (subst (λ (m : Managing g.row.D.Denot). IsSettledConfig m.config (g.D.Disk.gives m.disk) (g.D.Disk.may_leave_now m.disk)) (sym c.self.view_is) settled))
