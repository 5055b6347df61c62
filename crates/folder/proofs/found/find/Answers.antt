use Rattle.std.proofs.Common.{◌≡◌, ◌≤◌, List, ℕ, length, arith, ap, sym, ◌∙◌, ⊎_elim}
use Rattle.home_blocks.specs.Places.{disk_size_of}
use Rattle.local_store.specs.Meaning.{Meaning}
use Rattle.local_store.specs.Store.{geometry_of, meaning_in}
use Rattle.folder.proofs.found.find.Goals as goal

pub returns-then-incarnation-eq0-clause-found : goal.returns-then-incarnation-eq0-clause-found
returns-then-incarnation-eq0-clause-found g c = λ keeps m is.
    let was = c.in-Ok.ensures.stored keeps in
    let same = c.disks_mean_one.ensures m (meaning_in c.in-Ok.store.contents was.0) (g.D.Disk.gives c.args.disk) is.means was.2 in
    let none : m.incarnation ≡ 0 = ap (λ (x : Meaning). x.incarnation) same ∙ sym c.incarnation.ensures.incarnation ∙ c.if-incarnation-eq0.true in
    let given = is.given in
    omega arith

pub returns-else-incarnation-eq0-clause-found : goal.returns-else-incarnation-eq0-clause-found
returns-else-incarnation-eq0-clause-found g c = λ keeps.
    let was = c.in-Ok.ensures.stored keeps in
    let told = c.incarnation.ensures.incarnation in
    let some : c.in-Ok.store.contents.home.superblock.incarnation ≡ 0 → ⊥ = λ none. c.if-incarnation-eq0.false (told ∙ none) in
    let long : length (g.D.Disk.gives c.in-Ok.store.disk) ≡ g.D.Disk.size c.in-Ok.store.disk = g.met.D.Disk.gives_size keeps c.in-Ok.store.disk in
    let same : length (g.D.Disk.gives c.in-Ok.store.disk) ≡ length (g.D.Disk.gives c.args.disk) = ap (λ (l : List ℕ). length l) (c.in-Ok.ensures.reads keeps).same in
    let fits : disk_size_of (geometry_of c.in-Ok.store.contents) ≤ g.D.Disk.size c.in-Ok.store.disk = c.in-Ok.store.room in
    (was.0, was.1, record { means = was.2; room = omega arith; given = omega (arith, some) })

pub returns-in-NotAVolume-clause-found : goal.returns-in-NotAVolume-clause-found
returns-in-NotAVolume-clause-found g c = λ keeps m is.
    let openable = c.meanings_are_opened.ensures m (g.D.Disk.gives c.args.disk) is.means is.room in
    ⊎_elim
    (λ none. ⊎_elim openable.volume openable.area (c.in-Err.ensures.not_a_volume keeps none))
    (λ rest. ⊎_elim
    (λ other. openable.version (c.in-Err.ensures.other_version keeps other))
    (λ left. openable.finished (c.in-Err.ensures.unfinished keeps left))
    rest)
    c.in-NotAVolume.is
