use Rattle.std.proofs.Common.{◌*◌, ℕ, OnErr, subst}
use Rattle.disk_model.specs.Disk.{Follows, Torn}
use Rattle.disk_model.specs.Part.{inside, LeftInside}
use Rattle.home_blocks.specs.Places.{home_part}
use Rattle.home_blocks.proofs.home.Home.write_home.Goals as goal

pub returns-clause-failed : goal.returns-clause-failed
returns-clause-failed g c = λ keeps.
    let home = home_part c.args.self.now.superblock.geometry in
    subst (λ (n : ℕ). OnErr c.write_run.result (Torn (4096 * c.args.block) n (inside home (g.D.Disk.gives c.args.disk.now)) (inside home (g.D.Disk.gives c.write_run.new.disk)))) c.requires.whole
    (c.write_run.ensures.failed keeps)

pub returns-clause-leaves : goal.returns-clause-leaves
returns-clause-leaves g c = λ keeps.
    let home = home_part c.args.self.now.superblock.geometry in
    subst (λ (n : ℕ). Follows (Torn (4096 * c.args.block) n) (LeftInside home (g.D.Disk.may_leave_now c.args.disk.now)) (LeftInside home (g.D.Disk.may_leave_now c.write_run.new.disk))) c.requires.whole
    (c.write_run.ensures.leaves keeps)
