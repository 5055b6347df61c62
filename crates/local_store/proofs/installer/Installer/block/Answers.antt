use Rattle.std.proofs.Common.{List, subst, sym}
use Rattle.std.specs.Prelude.{Bool}
use Rattle.local_store.specs.Installer.{HasGiven, with_block}
use Rattle.local_store.proofs.Installing.{elsewhere_keeps, elsewhere_leaves, home_from_superblock, one_given, rest_leaves}
use Rattle.local_store.proofs.installer.Installer.block.Goals as goal

pub returns-then-self-clause-any_moment : goal.returns-then-self-clause-any_moment
returns-then-self-clause-any_moment g c = λ keeps was. rest_leaves c.args.self.now.disk was (g.met.D.Disk.only_now keeps c.args.self.now.disk)

pub returns-in-Err-clause-installing : goal.returns-in-Err-clause-installing
returns-in-Err-clause-installing g c = λ keeps was. elsewhere_keeps c.pair_readings_are_one.ensures was (home_from_superblock c.args.self.now.home.superblock.geometry) (c.write_home.ensures.frame keeps)

pub returns-in-Err-clause-any_moment : goal.returns-in-Err-clause-any_moment
returns-in-Err-clause-any_moment g c = λ keeps was. elsewhere_leaves c.pair_readings_are_one.ensures was (home_from_superblock c.args.self.now.home.superblock.geometry) (c.write_home.ensures.frame keeps)

pub returns-clause-installing : goal.returns-clause-installing
returns-clause-installing g c = λ keeps was. elsewhere_keeps c.pair_readings_are_one.ensures was (home_from_superblock c.args.self.now.home.superblock.geometry) (c.write_home.ensures.frame keeps)

pub returns-clause-any_moment : goal.returns-clause-any_moment
returns-clause-any_moment g c = λ keeps was. elsewhere_leaves c.pair_readings_are_one.ensures was (home_from_superblock c.args.self.now.home.superblock.geometry) (c.write_home.ensures.frame keeps)

pub returns-clause-given : goal.returns-clause-given
returns-clause-given g c = λ keeps volume was.
    let geometry = c.args.self.now.home.superblock.geometry in
    let new = g.D.Disk.gives c.write_home.new.disk in
    subst (λ (given : List Bool). HasGiven geometry given (with_block volume c.args.block c.args.bytes.now) new) (sym c.mark.ensures)
    (one_given geometry c.args.self.now.given volume (g.D.Disk.gives c.args.self.now.disk) new c.args.block (g.D.Disk.size c.args.self.now.disk) c.args.bytes.now
    c.args.self.now.room (g.met.D.Disk.gives_size keeps c.args.self.now.disk) c.requires.block c.requires.whole (c.in_default.ensures.gives keeps) was)
