use Rattle.std.proofs.Common.{◌⊎◌, List, ℕ, subst, sym}
use Rattle.disk_model.specs.Disk.{LeavesOnly}
use Rattle.local_store.specs.Installer.{MeansNothing, finished_meaning}
use Rattle.local_store.specs.Meaning.{Means}
use Rattle.local_store.proofs.Installing.{all_given, or_more, rest_leaves}
use Rattle.local_store.proofs.installer.Installer.finish.Goals as goal

pub returns-then-broken-clause-any_moment_refused : goal.returns-then-broken-clause-any_moment_refused
returns-then-broken-clause-any_moment_refused g c = λ keeps was volume given. or_more _ (rest_leaves c.args.self.disk was (g.met.D.Disk.only_now keeps c.args.self.disk))

pub returns-in-Ok-clause-means : goal.returns-in-Ok-clause-means
returns-in-Ok-clause-means g c = λ keeps was volume given.
    let it = c.args.self in
    subst (λ (v : List ℕ). Means (finished_meaning it.home.superblock c.args.front v) (g.D.Disk.gives c.finish_home.new.disk))
    (all_given it.home.superblock.geometry it.given volume (g.D.Disk.gives it.disk) (g.D.Disk.size it.disk) it.room (g.met.D.Disk.gives_size keeps it.disk) it.table c.requires.complete given) (c.in-Ok.ensures.means keeps was)

pub returns-in-Ok-clause-leaves : goal.returns-in-Ok-clause-leaves
returns-in-Ok-clause-leaves g c = λ keeps was volume given d may.
    subst (Means (finished_meaning c.args.self.home.superblock c.args.front volume)) (sym (c.in-Ok.ensures.whole keeps d may)) (returns-in-Ok-clause-means g c keeps was volume given)

pub returns-in-Ok-clause-any_moment : goal.returns-in-Ok-clause-any_moment
returns-in-Ok-clause-any_moment g c = λ keeps was volume given.
    let it = c.args.self in
    subst (λ (v : List ℕ). LeavesOnly g.D.Disk.moment g.D.Disk.may_have_left_since it.disk c.finish_home.new.disk (λ d. MeansNothing d ⊎ Means (finished_meaning it.home.superblock c.args.front v) d))
    (all_given it.home.superblock.geometry it.given volume (g.D.Disk.gives it.disk) (g.D.Disk.size it.disk) it.room (g.met.D.Disk.gives_size keeps it.disk) it.table c.requires.complete given) (c.finish_home.ensures.any_moment keeps was)

pub returns-clause-any_moment_refused : goal.returns-clause-any_moment_refused
returns-clause-any_moment_refused g c = λ keeps was volume given.
    let it = c.args.self in
    subst (λ (v : List ℕ). LeavesOnly g.D.Disk.moment g.D.Disk.may_have_left_since it.disk c.finish_home.new.disk (λ d. MeansNothing d ⊎ Means (finished_meaning it.home.superblock c.args.front v) d))
    (all_given it.home.superblock.geometry it.given volume (g.D.Disk.gives it.disk) (g.D.Disk.size it.disk) it.room (g.met.D.Disk.gives_size keeps it.disk) it.table c.requires.complete given) (c.finish_home.ensures.any_moment keeps was)
