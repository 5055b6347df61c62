use Rattle.std.proofs.Common.{◌≡◌, ◌+◌, ◌*◌, ◌≤◌, ◌∙◌, ap, drop, subst, sym, take}
use Rattle.disk_model.specs.Part.{inside}
use Rattle.home_blocks.specs.Places.{home_part}
use Rattle.local_store.specs.Store.{IsStored, State, geometry_of}
use Rattle.local_store.proofs.Runs.{run_read}
use Rattle.local_store.proofs.Stored.{reads_keep_store}
use Rattle.local_store.specs.Lending.{IsHomeKept}
use Rattle.local_store.proofs.HomeHalf.{home_reads_keep, home_reads_leave}
use Rattle.local_store.proofs.contents.Contents.read_blocks.Goals as goal

pub returns-clause-stored : goal.returns-clause-stored
returns-clause-stored g c = λ keeps v was. reads_keep_store was.stands was (c.read_blocks.ensures.reads keeps)

pub returns-clause-read : goal.returns-clause-read
returns-clause-read g c = λ keeps v.
    let first = c.args.first in
    let count = c.args.count in
    let gives = g.D.Disk.gives c.args.disk.now in
    let whole = c.requires.whole in
    let home = inside (home_part c.self.inside.home.superblock.geometry) gives in
    subst (λ (s : State). IsStored s v gives (g.D.Disk.may_leave_now c.args.disk.now) → c.put_over.new.bytes ≡ take (4096 * count) (drop (4096 * first) v)) c.self.view_is
    (λ was. run_read first count c.read_blocks.new.bytes c.put_over.new.bytes was.region.waits
    (subst (λ (s : State). first + count ≤ (geometry_of s).blocks) (sym c.self.view_is) c.requires.within)
    (c.in_default.ensures.read keeps ∙ ap (λ n. take n (drop (4096 * first) home)) whole)
    (c.put_over.ensures.size ∙ c.read_blocks.auto.bytes ∙ whole)
    c.put_over.ensures.blocks)

pub returns-in-Err-clause-home_moment : goal.returns-in-Err-clause-home_moment
returns-in-Err-clause-home_moment g c = λ keeps v batches was. home_reads_leave was (c.read_blocks.ensures.reads keeps)

pub returns-clause-home_moment : goal.returns-clause-home_moment
returns-clause-home_moment g c = λ keeps v batches was. home_reads_leave was (c.read_blocks.ensures.reads keeps)

pub returns-clause-home_kept : goal.returns-clause-home_kept
returns-clause-home_kept g c = λ keeps v batches was. home_reads_keep was (c.read_blocks.ensures.reads keeps)

pub returns-clause-home_read : goal.returns-clause-home_read
returns-clause-home_read g c = λ keeps v batches.
    let first = c.args.first in
    let count = c.args.count in
    let gives = g.D.Disk.gives c.args.disk.now in
    let whole = c.requires.whole in
    let home = inside (home_part c.self.inside.home.superblock.geometry) gives in
    subst (λ (s : State). IsHomeKept s v batches gives (g.D.Disk.may_leave_now c.args.disk.now) → c.put_over.new.bytes ≡ take (4096 * count) (drop (4096 * first) v)) c.self.view_is
    (λ was. run_read first count c.read_blocks.new.bytes c.put_over.new.bytes was.region.waits
    (subst (λ (s : State). first + count ≤ (geometry_of s).blocks) (sym c.self.view_is) c.requires.within)
    (c.in_default.ensures.read keeps ∙ ap (λ n. take n (drop (4096 * first) home)) whole)
    (c.put_over.ensures.size ∙ c.read_blocks.auto.bytes ∙ whole)
    c.put_over.ensures.blocks)
