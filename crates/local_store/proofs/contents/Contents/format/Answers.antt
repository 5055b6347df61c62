use Rattle.std.proofs.Common.{ℕ, List, [], ◌∙◌, ap, arith, subst, sym, false}
use Rattle.disk_model.specs.Part.{IsApart}
use Rattle.disk_model.specs.declared.part.Part.{Part}
use Rattle.gate_journal.specs.Journal as journal
use Rattle.gate_journal.specs.Journal.{still_settled}
use Rattle.home_blocks.specs.Home as home
use Rattle.home_blocks.specs.Places.{apart_back, home_apart, home_part, superblock_part}
use Rattle.home_blocks.specs.Superblock.{Superblock}
use Rattle.local_store.specs.Store.{IsStored}
use Rattle.home_blocks.specs.declared.area.Area.TheVariants.{First}
use Rattle.home_blocks.specs.declared.progress.Progress.TheVariants.{Whole}
use Rattle.home_blocks.specs.declared.version.Version.TheVariants.{Two}
use Rattle.local_store.proofs.Opening.{of_created}
use Rattle.local_store.proofs.Stored.{opened}
use Rattle.local_store.proofs.contents.Contents.format.Goals as goal

pub returns-clause-stored : goal.returns-clause-stored
returns-clause-stored g c = λ keeps.
    let geometry = c.args.geometry in
    let sb = ap (λ (h : home.State). h.superblock) c.in_ok-home.ensures.home ∙ c.new-superblock.ensures in
    let area = subst (λ (part : Part). IsApart superblock_part part) (sym (ap (λ (j : journal.State). j.part) c.in_ok-journal.ensures.journal)) c.area_part-part.ensures.superblock in
    let region = (c.create-2.ensures.frame keeps).others (home_part geometry) (home_apart geometry) in
    let before = (c.create.ensures.frame keeps).others (home_part geometry) (apart_back (home_part geometry) c.area_part-part.result c.area_part-part.ensures.home) in
    let zeros = region.gives ∙ before.gives ∙ c.in_ok-write_zeros.ensures.zeros keeps in
    subst (λ (v : List ℕ). IsStored (record { home = c.in_ok-home.home; journal = c.in_ok-journal.journal; pending = c.in_ok-pending.pending; cache = c.in_ok-cache.cache; broken = false }) v (g.D.Disk.gives c.create-2.new.disk) (g.D.Disk.may_leave_now c.create-2.new.disk)) zeros
    (opened c.in_ok-home.home c.in_ok-journal.journal c.in_ok-pending.pending c.in_ok-cache.cache c.in_ok-cache.ensures geometry []
    (of_created c.in_ok-home.home c.in_ok-journal.journal c.in_ok-pending.pending c.in_ok-cache.cache (record { version = Two; progress = Whole; slot = c.args.slot; incarnation = c.args.incarnation; geometry = geometry; front = 0; current = First })
    c.area_part-part.result sb c.in_ok-journal.ensures.journal c.area_part-part.ensures.part) (ap (λ (s : Superblock). s.geometry) sb) (ap (λ (s : Superblock). s.progress) sb) (c.in_ok-home.ensures.settled keeps)
    (still_settled ((c.create-2.ensures.frame keeps).others c.in_ok-journal.journal.part area) (c.in_ok-journal.ensures.settled keeps)) c.in_ok-pending.ensures (λ k d lt. absurd (omega (arith, lt)))
    (omega (arith, c.requires.on_disk, c.write_zeros.ensures.size, c.create.ensures.size, c.create-2.ensures.size, g.met.D.Disk.gives_size keeps c.create-2.new.disk)) (c.in_ok-home.ensures.whole keeps))
