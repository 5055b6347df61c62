use Rattle.disk_model.specs.Moments.{started}
use Rattle.local_store.specs.About.{about_of, meaning_with}
use Rattle.local_store.specs.Kept.{stored_means}
use Rattle.local_store.specs.Meaning.{Means}
use Rattle.folder.proofs.restarting.Opened.migrate.Goals as goal

pub returns-in-Two-clause-any_moment : goal.returns-in-Two-clause-any_moment
returns-in-Two-clause-any_moment g c = λ keeps volume kept.
    let store = c.args.self.now.store in
    started g.D.Disk.moment g.D.Disk.may_have_left_since store.disk (Means (meaning_with (about_of store.contents) volume))
    (λ x left. stored_means kept.stands kept x (g.met.D.Disk.only_now keeps store.disk x left))
