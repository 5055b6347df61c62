use Rattle.std.proofs.Common.{◌∙◌, ap}
use Rattle.disk_model.specs.Moments.{started, weaker}
use Rattle.home_blocks.specs.Home as home
use Rattle.home_blocks.specs.Superblock.{Superblock}
use Rattle.local_store.specs.Installer.{IsNotMeant}
use Rattle.local_store.proofs.Installing.{installing, left_not_meant, making_not_meant}
use Rattle.local_store.proofs.installer.Installer.start.Goals as goal

pub returns-in_default-clause-any_moment_refused : goal.returns-in_default-clause-any_moment_refused
returns-in_default-clause-any_moment_refused g c = λ keeps has.
    started g.D.Disk.moment g.D.Disk.may_have_left_since c.args.disk (IsNotMeant c.args.slot c.args.incarnation)
    (λ d may. left_not_meant c.args.slot c.args.incarnation (g.D.Disk.may_leave_now c.args.disk) has d (g.met.D.Disk.only_now keeps c.args.disk d may))

pub returns-in-Ok-create-clause-installing : goal.returns-in-Ok-create-clause-installing
returns-in-Ok-create-clause-installing g c = λ keeps.
    installing c.pair_readings_are_one.ensures (c.in-Ok-create.ensures.settled keeps)
    (ap (λ (h : home.State). h.superblock.progress) c.in-Ok-create.ensures.home ∙ ap (λ (sb : Superblock). sb.progress) c.new-superblock.ensures)

pub returns-in-Ok-create-clause-any_moment : goal.returns-in-Ok-create-clause-any_moment
returns-in-Ok-create-clause-any_moment g c = λ keeps has.
    weaker g.D.Disk.moment g.D.Disk.may_have_left_since c.args.disk c.create.new.disk _ (IsNotMeant c.args.slot c.args.incarnation)
    (making_not_meant c.args.slot c.args.incarnation (g.D.Disk.may_leave_now c.args.disk) has c.pair_readings_are_one.ensures c.new-superblock.result (ap (λ (sb : Superblock). sb.progress) c.new-superblock.ensures))
    (c.create.ensures.any_moment keeps)

pub returns-in-Err-clause-any_moment_refused : goal.returns-in-Err-clause-any_moment_refused
returns-in-Err-clause-any_moment_refused g c = λ keeps has.
    weaker g.D.Disk.moment g.D.Disk.may_have_left_since c.args.disk c.create.new.disk _ (IsNotMeant c.args.slot c.args.incarnation)
    (making_not_meant c.args.slot c.args.incarnation (g.D.Disk.may_leave_now c.args.disk) has c.pair_readings_are_one.ensures c.new-superblock.result (ap (λ (sb : Superblock). sb.progress) c.new-superblock.ensures))
    (c.create.ensures.any_moment keeps)
