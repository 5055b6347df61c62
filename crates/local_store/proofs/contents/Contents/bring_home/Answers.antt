use Rattle.std.proofs.Common.{◌≡◌, ◌∙◌, ◌+◌, ◌*◌, ◌<◌, ◌≤◌, List, ℕ, ap, arith, subst, sym, Option}
use Rattle.std.specs.Prelude.{Some}
use Rattle.block_cache.specs.Cache.{Agrees}
use Rattle.home_blocks.specs.Places.{home_part}
use Rattle.disk_model.specs.Part.{inside}
use Rattle.disk_model.specs.Disk.{LeavesOnly}
use Rattle.local_store.specs.Meaning.{Means}
use Rattle.local_store.specs.Store.{IsStored, State, geometry_of, meaning_in}
use Rattle.local_store.proofs.Stored.{at_rest, tick_keeps, tick_leaves}
use Rattle.local_store.specs.Lending.{HoldsHome, IsHomeKept}
use Rattle.local_store.specs.Pending.{count_pending}
use Rattle.local_store.proofs.Counts.{one_less}
use Rattle.local_store.proofs.HomeHalf.{home_at_rest, home_tick_keeps, home_tick_leaves}
use Rattle.local_store.proofs.contents.Contents.bring_home.Goals as goal

within : (b n m long : ℕ) → b < n → m ≡ n → long ≡ 4096 * m → 4096 * (b + 1) ≤ long
within b n m long below same is = omega (arith, below, same, is)

pub returns-in_default-clause-any_moment : goal.returns-in_default-clause-any_moment
returns-in_default-clause-any_moment g c = λ keeps v.
    subst (λ (s : State). IsStored s v (g.D.Disk.gives c.args.disk.now) (g.D.Disk.may_leave_now c.args.disk.now) → LeavesOnly g.D.Disk.moment g.D.Disk.may_have_left_since c.args.disk.now c.args.disk.now (Means (meaning_in s v))) c.self.view_is
    (λ was. at_rest c.args.disk.now c.self.invariant.journal was (g.met.D.Disk.only_now keeps c.args.disk.now))

pub returns-in-Err-clause-any_moment : goal.returns-in-Err-clause-any_moment
returns-in-Err-clause-any_moment g c = λ keeps v.
    subst (λ (s : State). IsStored s v (g.D.Disk.gives c.args.disk.now) (g.D.Disk.may_leave_now c.args.disk.now) → LeavesOnly g.D.Disk.moment g.D.Disk.may_have_left_since c.args.disk.now c.write_home.new.disk (Means (meaning_in s v))) c.self.view_is
    (λ was. tick_leaves c.self.invariant.journal was c.args.block c.copy_to.new.bytes (sym c.in-Some.ensures ∙ ap Some (sym c.copy_to.ensures.copied)) (c.write_home.ensures.frame keeps) (c.write_home.ensures.leaves keeps)
    (g.met.D.Disk.only_now keeps c.args.disk.now) (c.write_home.ensures.time keeps))

pub returns-clause-any_moment : goal.returns-clause-any_moment
returns-clause-any_moment g c = λ keeps v.
    subst (λ (s : State). IsStored s v (g.D.Disk.gives c.args.disk.now) (g.D.Disk.may_leave_now c.args.disk.now) → LeavesOnly g.D.Disk.moment g.D.Disk.may_have_left_since c.args.disk.now c.write_home.new.disk (Means (meaning_in s v))) c.self.view_is
    (λ was. tick_leaves c.self.invariant.journal was c.args.block c.copy_to.new.bytes (sym c.in-Some.ensures ∙ ap Some (sym c.copy_to.ensures.copied)) (c.write_home.ensures.frame keeps) (c.write_home.ensures.leaves keeps)
    (g.met.D.Disk.only_now keeps c.args.disk.now) (c.write_home.ensures.time keeps))

pub returns-clause-stored : goal.returns-clause-stored
returns-clause-stored g c = λ keeps v.
    subst (λ (s : State). IsStored s v (g.D.Disk.gives c.args.disk.now) (g.D.Disk.may_leave_now c.args.disk.now)
    → IsStored (record { home = c.self.inside.home; journal = c.self.inside.journal; pending = c.drop_block.new.self; cache = c.renew.new.self; broken = c.self.inside.broken }) v (g.D.Disk.gives c.write_home.new.disk) (g.D.Disk.may_leave_now c.write_home.new.disk)) c.self.view_is
    (λ was. subst (λ (p : List (Option (List ℕ))). IsStored (record { home = c.self.inside.home; journal = c.self.inside.journal; pending = p; cache = c.renew.new.self; broken = c.self.inside.broken }) v (g.D.Disk.gives c.write_home.new.disk) (g.D.Disk.may_leave_now c.write_home.new.disk)) (sym c.drop_block.ensures)
    (tick_keeps c.self.invariant.journal was c.args.block c.copy_to.new.bytes (sym c.in-Some.ensures ∙ ap Some (sym c.copy_to.ensures.copied)) (c.write_home.ensures.frame keeps) (c.write_home.ensures.leaves keeps) c.renew.new.self
    (subst (Agrees c.renew.new.self) (sym (c.in_default-write_home.ensures.gives keeps)) (c.renew.ensures.agrees (inside (home_part c.self.inside.home.superblock.geometry) (g.D.Disk.gives c.args.disk.now))
    (within c.args.block (geometry_of c.args.self.now).blocks c.self.inside.home.superblock.geometry.blocks _ c.requires.block (ap (λ (s : State). (geometry_of s).blocks) c.self.view_is) was.region.waits.as_long) was.cached))
    (subst (λ (s : State). c.args.block < (geometry_of s).blocks) (sym c.self.view_is) c.requires.block) (c.in_default-write_home.ensures.gives keeps)))

pub returns-in_default-clause-home_moment : goal.returns-in_default-clause-home_moment
returns-in_default-clause-home_moment g c = λ keeps v batches.
    subst (λ (s : State). IsHomeKept s v batches (g.D.Disk.gives c.args.disk.now) (g.D.Disk.may_leave_now c.args.disk.now) → LeavesOnly g.D.Disk.moment g.D.Disk.may_have_left_since c.args.disk.now c.args.disk.now (HoldsHome s v batches)) c.self.view_is
    (λ was. home_at_rest c.args.disk.now was (g.met.D.Disk.only_now keeps c.args.disk.now))

pub returns-in-Err-clause-home_moment : goal.returns-in-Err-clause-home_moment
returns-in-Err-clause-home_moment g c = λ keeps v batches.
    subst (λ (s : State). IsHomeKept s v batches (g.D.Disk.gives c.args.disk.now) (g.D.Disk.may_leave_now c.args.disk.now) → LeavesOnly g.D.Disk.moment g.D.Disk.may_have_left_since c.args.disk.now c.write_home.new.disk (HoldsHome s v batches)) c.self.view_is
    (λ was. home_tick_leaves was c.args.block c.copy_to.new.bytes (sym c.in-Some.ensures ∙ ap Some (sym c.copy_to.ensures.copied)) (c.write_home.ensures.frame keeps) (c.write_home.ensures.leaves keeps)
    (g.met.D.Disk.only_now keeps c.args.disk.now) (c.write_home.ensures.time keeps))

pub returns-clause-home_moment : goal.returns-clause-home_moment
returns-clause-home_moment g c = λ keeps v batches.
    subst (λ (s : State). IsHomeKept s v batches (g.D.Disk.gives c.args.disk.now) (g.D.Disk.may_leave_now c.args.disk.now) → LeavesOnly g.D.Disk.moment g.D.Disk.may_have_left_since c.args.disk.now c.write_home.new.disk (HoldsHome s v batches)) c.self.view_is
    (λ was. home_tick_leaves was c.args.block c.copy_to.new.bytes (sym c.in-Some.ensures ∙ ap Some (sym c.copy_to.ensures.copied)) (c.write_home.ensures.frame keeps) (c.write_home.ensures.leaves keeps)
    (g.met.D.Disk.only_now keeps c.args.disk.now) (c.write_home.ensures.time keeps))

pub returns-clause-home_kept : goal.returns-clause-home_kept
returns-clause-home_kept g c = λ keeps v batches.
    subst (λ (s : State). IsHomeKept s v batches (g.D.Disk.gives c.args.disk.now) (g.D.Disk.may_leave_now c.args.disk.now)
    → IsHomeKept (record { home = c.self.inside.home; journal = c.self.inside.journal; pending = c.drop_block.new.self; cache = c.renew.new.self; broken = c.self.inside.broken }) v batches (g.D.Disk.gives c.write_home.new.disk) (g.D.Disk.may_leave_now c.write_home.new.disk)) c.self.view_is
    (λ was. subst (λ (p : List (Option (List ℕ))). IsHomeKept (record { home = c.self.inside.home; journal = c.self.inside.journal; pending = p; cache = c.renew.new.self; broken = c.self.inside.broken }) v batches (g.D.Disk.gives c.write_home.new.disk) (g.D.Disk.may_leave_now c.write_home.new.disk)) (sym c.drop_block.ensures)
    (home_tick_keeps was c.args.block c.copy_to.new.bytes (sym c.in-Some.ensures ∙ ap Some (sym c.copy_to.ensures.copied)) (c.write_home.ensures.frame keeps) (c.write_home.ensures.leaves keeps) c.renew.new.self
    (subst (Agrees c.renew.new.self) (sym (c.in_default-write_home.ensures.gives keeps)) (c.renew.ensures.agrees (inside (home_part c.self.inside.home.superblock.geometry) (g.D.Disk.gives c.args.disk.now))
    (within c.args.block (geometry_of c.args.self.now).blocks c.self.inside.home.superblock.geometry.blocks _ c.requires.block (ap (λ (s : State). (geometry_of s).blocks) c.self.view_is) was.region.waits.as_long) was.cached))
    (subst (λ (s : State). c.args.block < (geometry_of s).blocks) (sym c.self.view_is) c.requires.block) (c.in_default-write_home.ensures.gives keeps)))

pub returns-clause-pays : goal.returns-clause-pays
returns-clause-pays g c =
    let less = one_less c.self.inside.pending c.args.block c.copy_to.new.bytes (sym c.in-Some.ensures ∙ ap Some (sym c.copy_to.ensures.copied)) in
    let was : count_pending c.args.self.now.pending ≡ count_pending c.self.inside.pending = ap (λ (s : State). count_pending s.pending) (sym c.self.view_is) in
    omega (arith, less, was, ap count_pending c.drop_block.ensures, c.write_home.ensures.calls)
