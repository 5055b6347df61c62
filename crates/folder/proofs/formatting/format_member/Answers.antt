use Rattle.std.proofs.Common.{◌*◌, replicate, subst}
use Rattle.local_store.specs.About.{About, meaning_with}
use Rattle.local_store.specs.Kept.{stored_means}
use Rattle.local_store.specs.Meaning.{Means}
use Rattle.folder.proofs.formatting.format_member.Goals as goal

pub returns-clause-gives : goal.returns-clause-gives
returns-clause-gives g c = λ keeps.
    let stored = c.in_ok-format.ensures.stored keeps in
    let bytes = g.D.Disk.gives c.format.new.disk in
    subst (λ (a : About). Means (meaning_with a (replicate (4096 * c.args.geometry.blocks) 0)) bytes) c.in_ok-format.ensures.about
    (stored_means stored.stands stored bytes (g.met.D.Disk.leaves_gives keeps c.format.new.disk))

pub returns-clause-leaves : goal.returns-clause-leaves
returns-clause-leaves g c = λ keeps x left.
    let stored = c.in_ok-format.ensures.stored keeps in
    subst (λ (a : About). Means (meaning_with a (replicate (4096 * c.args.geometry.blocks) 0)) x) c.in_ok-format.ensures.about
    (stored_means stored.stands stored x left)
