use Rattle.std.proofs.Common.{◌∙◌, ap}
use Rattle.disk_model.specs.Moments.{then_run}
use Rattle.home_blocks.specs.Home as home
use Rattle.local_store.proofs.Changing.{IsOtherPart, emptied_keeps, emptied_leaves, fresh_journal, mark_keeps, mark_leaves, next_is, other_part}
use Rattle.local_store.proofs.Stored.{reads_leave}
use Rattle.local_store.proofs.homing.other_area.Goals as goal

pub returns-in_err-sync_home-clause-any_moment : goal.returns-in_err-sync_home-clause-any_moment
returns-in_err-sync_home-clause-any_moment g c = λ keeps store v front of empty was. reads_leave of was (c.sync_home.ensures.reads keeps)

pub returns-in_err-journal-clause-any_moment : goal.returns-in_err-journal-clause-any_moment
returns-in_err-journal-clause-any_moment g c = λ keeps store v front of empty was.
    let part = c.area_part-part.ensures in
    let other : IsOtherPart c.args.home.now c.area_part-part.result = other_part c.superblock-superblock.ensures c.geometry-geometry.ensures c.current.ensures c.other-area.ensures part.part part.superblock part.home part.other in
    emptied_leaves of was other (c.sync_home.ensures.reads keeps) (c.create.ensures.frame keeps)

pub returns-in_err-mark-clause-any_moment : goal.returns-in_err-mark-clause-any_moment
returns-in_err-mark-clause-any_moment g c = λ keeps store v front of empty was.
    let part = c.area_part-part.ensures in
    let other : IsOtherPart c.args.home.now c.area_part-part.result = other_part c.superblock-superblock.ensures c.geometry-geometry.ensures c.current.ensures c.other-area.ensures part.part part.superblock part.home part.other in
    let closed = emptied_keeps of was other (c.sync_home.ensures.reads keeps) (c.create.ensures.frame keeps) in
    then_run g.D.Disk.moment g.D.Disk.may_have_left_since c.args.disk.now c.create.new.disk c.mark.new.disk _ (emptied_leaves of was other (c.sync_home.ensures.reads keeps) (c.create.ensures.frame keeps))
    (mark_leaves of closed empty (c.in_ok-journal.ensures.whole keeps) c.in_ok-journal.journal (fresh_journal c.superblock-superblock.ensures c.geometry-geometry.ensures c.slot.ensures front c.in_ok-journal.ensures.journal other)
    (c.in_ok-journal.ensures.settled keeps) (c.mark.ensures.frame keeps) (next_is c.superblock-superblock.ensures c.current.ensures c.other-area.ensures front) (c.mark.ensures.any_moment keeps closed.superblock))

pub returns-clause-any_moment : goal.returns-clause-any_moment
returns-clause-any_moment g c = λ keeps store v front of empty was.
    let part = c.area_part-part.ensures in
    let other : IsOtherPart c.args.home.now c.area_part-part.result = other_part c.superblock-superblock.ensures c.geometry-geometry.ensures c.current.ensures c.other-area.ensures part.part part.superblock part.home part.other in
    let closed = emptied_keeps of was other (c.sync_home.ensures.reads keeps) (c.create.ensures.frame keeps) in
    then_run g.D.Disk.moment g.D.Disk.may_have_left_since c.args.disk.now c.create.new.disk c.mark.new.disk _ (emptied_leaves of was other (c.sync_home.ensures.reads keeps) (c.create.ensures.frame keeps))
    (mark_leaves of closed empty (c.in_ok-journal.ensures.whole keeps) c.in_ok-journal.journal (fresh_journal c.superblock-superblock.ensures c.geometry-geometry.ensures c.slot.ensures front c.in_ok-journal.ensures.journal other)
    (c.in_ok-journal.ensures.settled keeps) (c.mark.ensures.frame keeps) (next_is c.superblock-superblock.ensures c.current.ensures c.other-area.ensures front) (c.mark.ensures.any_moment keeps closed.superblock))

pub returns-clause-stored : goal.returns-clause-stored
returns-clause-stored g c = λ keeps store v front of empty was.
    let part = c.area_part-part.ensures in
    let other : IsOtherPart c.args.home.now c.area_part-part.result = other_part c.superblock-superblock.ensures c.geometry-geometry.ensures c.current.ensures c.other-area.ensures part.part part.superblock part.home part.other in
    let closed = emptied_keeps of was other (c.sync_home.ensures.reads keeps) (c.create.ensures.frame keeps) in
    mark_keeps of closed empty (c.in_ok-journal.ensures.whole keeps) c.in_ok-journal.journal (fresh_journal c.superblock-superblock.ensures c.geometry-geometry.ensures c.slot.ensures front c.in_ok-journal.ensures.journal other)
    (c.in_ok-journal.ensures.settled keeps) (c.mark.ensures.frame keeps) c.mark.new.self (ap (λ (h : home.State). h.superblock) c.in_ok-mark.ensures.ok ∙ next_is c.superblock-superblock.ensures c.current.ensures c.other-area.ensures front)
    (c.in_ok-mark.ensures.settled keeps closed.superblock) (c.in_ok-mark.ensures.whole keeps)
