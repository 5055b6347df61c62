use Rattle.std.proofs.Common.{◌∙◌, ap}
use Rattle.home_blocks.specs.Home as home
use Rattle.home_blocks.specs.Superblock.{Superblock}
use Rattle.local_store.proofs.Installing.{closing_leaves, marking_leaves, marking_means, or_more, reading_leaves}
use Rattle.local_store.proofs.installer.finish_home.Goals as goal

pub returns-in_err-sync_home-clause-any_moment : goal.returns-in_err-sync_home-clause-any_moment
returns-in_err-sync_home-clause-any_moment g c = λ keeps was. or_more _ (reading_leaves c.pair_readings_are_one.ensures was (c.sync_home.ensures.reads keeps))

pub returns-in_err-create-clause-any_moment : goal.returns-in_err-create-clause-any_moment
returns-in_err-create-clause-any_moment g c = λ keeps was.
    let geometry = c.geometry-geometry.ensures ∙ ap (λ (sb : Superblock). sb.geometry) c.superblock-superblock.ensures in
    or_more _ (closing_leaves c.pair_readings_are_one.ensures was geometry c.area_part-part.ensures.part (c.sync_home.ensures.reads keeps) (c.create.ensures.frame keeps))

pub returns-in_err-mark-clause-any_moment : goal.returns-in_err-mark-clause-any_moment
returns-in_err-mark-clause-any_moment g c = λ keeps was.
    let geometry = c.geometry-geometry.ensures ∙ ap (λ (sb : Superblock). sb.geometry) c.superblock-superblock.ensures in
    marking_leaves c.pair_readings_are_one.ensures was geometry c.area_part-part.ensures.part (c.sync_home.ensures.reads keeps) (c.create.ensures.frame keeps)
    c.in_ok-create.ensures.journal (c.in_ok-create.ensures.settled keeps) (c.in_ok-create.ensures.whole keeps) (c.mark.ensures.frame keeps) (c.mark.ensures.any_moment keeps)

pub returns-clause-any_moment : goal.returns-clause-any_moment
returns-clause-any_moment g c = λ keeps was.
    let geometry = c.geometry-geometry.ensures ∙ ap (λ (sb : Superblock). sb.geometry) c.superblock-superblock.ensures in
    marking_leaves c.pair_readings_are_one.ensures was geometry c.area_part-part.ensures.part (c.sync_home.ensures.reads keeps) (c.create.ensures.frame keeps)
    c.in_ok-create.ensures.journal (c.in_ok-create.ensures.settled keeps) (c.in_ok-create.ensures.whole keeps) (c.mark.ensures.frame keeps) (c.mark.ensures.any_moment keeps)

pub returns-clause-means : goal.returns-clause-means
returns-clause-means g c = λ keeps was.
    let geometry = c.geometry-geometry.ensures ∙ ap (λ (sb : Superblock). sb.geometry) c.superblock-superblock.ensures in
    marking_means c.pair_readings_are_one.ensures was geometry c.area_part-part.ensures.part (c.sync_home.ensures.reads keeps) (c.create.ensures.frame keeps)
    c.in_ok-create.ensures.journal (c.in_ok-create.ensures.settled keeps) (c.in_ok-create.ensures.whole keeps) (c.mark.ensures.frame keeps)
    (ap (λ (h : home.State). h.superblock) c.in_ok-mark.ensures.ok) (c.in_ok-mark.ensures.settled keeps)
