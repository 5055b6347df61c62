use Rattle.std.proofs.Common.{◌≡◌, ◌<◌, ◌∙◌, subst, sym}
use Rattle.local_store.specs.Lending.{IsHomeKept}
use Rattle.local_store.specs.Store.{IsStored, State, geometry_of}
use Rattle.local_store.proofs.HomeHalf.{home_at_rest, home_reads_keep, home_reads_leave, home_with_cache}
use Rattle.local_store.proofs.Stored.{reads_keep_store, with_cache}
use Rattle.volume.specs.Writes.{block_of}
use Rattle.local_store.proofs.contents.Contents.read_block.Goals as goal

pub returns-in-Some-clause-read : goal.returns-in-Some-clause-read
returns-in-Some-clause-read g c = λ keeps v.
    subst (λ (s : State). IsStored s v (g.D.Disk.gives c.args.disk.now) (g.D.Disk.may_leave_now c.args.disk.now) → c.copy_to.new.bytes ≡ block_of v c.args.block) c.self.view_is
    (λ was. c.copy_to.ensures.copied ∙ was.region.waits.image c.args.block c.in-Some.image.now.bytes (sym c.in-Some.ensures))

pub returns-clause-stored : goal.returns-clause-stored
returns-clause-stored g c = λ keeps v.
    subst (λ (s : State). IsStored s v (g.D.Disk.gives c.args.disk.now) (g.D.Disk.may_leave_now c.args.disk.now)
    → IsStored (record { home = c.self.inside.home; journal = c.self.inside.journal; pending = c.self.inside.pending; cache = c.read.new.self; broken = c.self.inside.broken }) v (g.D.Disk.gives c.read.new.disk) (g.D.Disk.may_leave_now c.read.new.disk)) c.self.view_is
    (λ was. with_cache c.read.new.self (c.read.ensures.agrees keeps was.cached) (reads_keep_store c.self.invariant.journal was (c.read.ensures.reads keeps)))

pub returns-clause-read : goal.returns-clause-read
returns-clause-read g c = λ keeps v.
    subst (λ (s : State). IsStored s v (g.D.Disk.gives c.args.disk.now) (g.D.Disk.may_leave_now c.args.disk.now) → c.read.new.bytes ≡ block_of v c.args.block) c.self.view_is
    (λ was. c.in_default-read.ensures.read keeps was.cached ∙ was.region.waits.is_home c.args.block (subst (λ (s : State). c.args.block < (geometry_of s).blocks) (sym c.self.view_is) c.requires.block)
    (sym c.in_default.ensures))

pub returns-in-Some-clause-home_read : goal.returns-in-Some-clause-home_read
returns-in-Some-clause-home_read g c = λ keeps v batches.
    subst (λ (s : State). IsHomeKept s v batches (g.D.Disk.gives c.args.disk.now) (g.D.Disk.may_leave_now c.args.disk.now) → c.copy_to.new.bytes ≡ block_of v c.args.block) c.self.view_is
    (λ was. c.copy_to.ensures.copied ∙ was.region.waits.image c.args.block c.in-Some.image.now.bytes (sym c.in-Some.ensures))

pub returns-in-Some-clause-home_moment : goal.returns-in-Some-clause-home_moment
returns-in-Some-clause-home_moment g c = λ keeps v batches was. home_at_rest c.args.disk.now was (g.met.D.Disk.only_now keeps c.args.disk.now)

pub returns-in-Err-clause-home_moment : goal.returns-in-Err-clause-home_moment
returns-in-Err-clause-home_moment g c = λ keeps v batches was. home_reads_leave was (c.read.ensures.reads keeps)

pub returns-clause-home_moment : goal.returns-clause-home_moment
returns-clause-home_moment g c = λ keeps v batches was. home_reads_leave was (c.read.ensures.reads keeps)

pub returns-clause-home_kept : goal.returns-clause-home_kept
returns-clause-home_kept g c = λ keeps v batches.
    subst (λ (s : State). IsHomeKept s v batches (g.D.Disk.gives c.args.disk.now) (g.D.Disk.may_leave_now c.args.disk.now)
    → IsHomeKept (record { home = c.self.inside.home; journal = c.self.inside.journal; pending = c.self.inside.pending; cache = c.read.new.self; broken = c.self.inside.broken }) v batches (g.D.Disk.gives c.read.new.disk) (g.D.Disk.may_leave_now c.read.new.disk)) c.self.view_is
    (λ was. home_with_cache c.read.new.self (c.read.ensures.agrees keeps was.cached) (home_reads_keep was (c.read.ensures.reads keeps)))

pub returns-clause-home_read : goal.returns-clause-home_read
returns-clause-home_read g c = λ keeps v batches.
    subst (λ (s : State). IsHomeKept s v batches (g.D.Disk.gives c.args.disk.now) (g.D.Disk.may_leave_now c.args.disk.now) → c.read.new.bytes ≡ block_of v c.args.block) c.self.view_is
    (λ was. c.in_default-read.ensures.read keeps was.cached ∙ was.region.waits.is_home c.args.block (subst (λ (s : State). c.args.block < (geometry_of s).blocks) (sym c.self.view_is) c.requires.block)
    (sym c.in_default.ensures))
