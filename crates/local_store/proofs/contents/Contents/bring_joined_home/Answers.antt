use Rattle.std.proofs.Common.{◌≡◌, ◌+◌, ◌*◌, ◌≤◌, ◌∙◌, ℕ, ap, arith, subst, sym}
use Rattle.block_cache.specs.Cache.{Agrees}
use Rattle.disk_model.specs.Disk.{Follows, LeavesOnly, Torn, put}
use Rattle.disk_model.specs.Part.{inside, LeftInside}
use Rattle.home_blocks.specs.Places.{home_part}
use Rattle.local_store.specs.Meaning.{Means}
use Rattle.local_store.specs.Pending.{AreJoined}
use Rattle.local_store.specs.Store.{IsStored, State, geometry_of, meaning_in}
use Rattle.local_store.proofs.Stored.{at_rest, run_keeps, run_leaves}
use Rattle.local_store.specs.Lending.{HoldsHome, IsHomeKept}
use Rattle.local_store.proofs.HomeHalf.{home_at_rest, home_run_keeps, home_run_leaves}
use Rattle.local_store.proofs.contents.Contents.bring_joined_home.Goals as goal

pub returns-in_err-join-clause-any_moment : goal.returns-in_err-join-clause-any_moment
returns-in_err-join-clause-any_moment g c = λ keeps v.
    subst (λ (s : State). IsStored s v (g.D.Disk.gives c.args.disk.now) (g.D.Disk.may_leave_now c.args.disk.now) → LeavesOnly g.D.Disk.moment g.D.Disk.may_have_left_since c.args.disk.now c.args.disk.now (Means (meaning_in s v))) c.self.view_is
    (λ was. at_rest c.args.disk.now c.self.invariant.journal was (g.met.D.Disk.only_now keeps c.args.disk.now))

pub returns-in-Err-clause-any_moment : goal.returns-in-Err-clause-any_moment
returns-in-Err-clause-any_moment g c = λ keeps v.
    let joined = subst (AreJoined c.self.inside.pending c.args.run.first c.args.run.count) (sym c.deref.ensures.value) c.in_ok-join.ensures in
    let home = home_part c.self.inside.home.superblock.geometry in
    let follows = subst (λ (n : ℕ). Follows (Torn (4096 * c.args.run.first) n) (LeftInside home (g.D.Disk.may_leave_now c.args.disk.now)) (LeftInside home (g.D.Disk.may_leave_now c.write_run.new.disk))) joined.size (c.write_run.ensures.leaves keeps) in
    subst (λ (s : State). IsStored s v (g.D.Disk.gives c.args.disk.now) (g.D.Disk.may_leave_now c.args.disk.now) → LeavesOnly g.D.Disk.moment g.D.Disk.may_have_left_since c.args.disk.now c.write_run.new.disk (Means (meaning_in s v))) c.self.view_is
    (λ was. run_leaves c.self.invariant.journal was c.args.run.first c.args.run.count c.deref.result.now joined (c.write_run.ensures.frame keeps) follows (g.met.D.Disk.only_now keeps c.args.disk.now) (c.write_run.ensures.time keeps))

pub returns-clause-any_moment : goal.returns-clause-any_moment
returns-clause-any_moment g c = λ keeps v.
    let joined = subst (AreJoined c.self.inside.pending c.args.run.first c.args.run.count) (sym c.deref.ensures.value) c.in_ok-join.ensures in
    let home = home_part c.self.inside.home.superblock.geometry in
    let follows = subst (λ (n : ℕ). Follows (Torn (4096 * c.args.run.first) n) (LeftInside home (g.D.Disk.may_leave_now c.args.disk.now)) (LeftInside home (g.D.Disk.may_leave_now c.write_run.new.disk))) joined.size (c.write_run.ensures.leaves keeps) in
    subst (λ (s : State). IsStored s v (g.D.Disk.gives c.args.disk.now) (g.D.Disk.may_leave_now c.args.disk.now) → LeavesOnly g.D.Disk.moment g.D.Disk.may_have_left_since c.args.disk.now c.write_run.new.disk (Means (meaning_in s v))) c.self.view_is
    (λ was. run_leaves c.self.invariant.journal was c.args.run.first c.args.run.count c.deref.result.now joined (c.write_run.ensures.frame keeps) follows (g.met.D.Disk.only_now keeps c.args.disk.now) (c.write_run.ensures.time keeps))

pub returns-clause-stored : goal.returns-clause-stored
returns-clause-stored g c = λ keeps v.
    let first = c.args.run.first in
    let count = c.args.run.count in
    let joined = subst (AreJoined c.self.inside.pending first count) (sym c.deref.ensures.value) c.in_ok-join.ensures in
    let home = home_part c.self.inside.home.superblock.geometry in
    let old = inside home (g.D.Disk.gives c.args.disk.now) in
    let follows = subst (λ (n : ℕ). Follows (Torn (4096 * first) n) (LeftInside home (g.D.Disk.may_leave_now c.args.disk.now)) (LeftInside home (g.D.Disk.may_leave_now c.write_run.new.disk))) joined.size (c.write_run.ensures.leaves keeps) in
    let holds = c.in_default.ensures.gives keeps in
    let within : first + count ≤ c.self.inside.home.superblock.geometry.blocks = subst (λ (s : State). first + count ≤ (geometry_of s).blocks) (sym c.self.view_is) c.requires.within in
    let same : put old (4096 * first) c.deref-2.result.now ≡ inside home (g.D.Disk.gives c.write_run.new.disk) = ap (put old (4096 * first)) (c.deref-2.ensures.value ∙ sym c.deref.ensures.value) ∙ sym holds in
    subst (λ (s : State). IsStored s v (g.D.Disk.gives c.args.disk.now) (g.D.Disk.may_leave_now c.args.disk.now)
    → IsStored (record { home = c.self.inside.home; journal = c.self.inside.journal; pending = c.drop_run.new.self; cache = c.renew_run.new.cache; broken = c.self.inside.broken }) v (g.D.Disk.gives c.write_run.new.disk) (g.D.Disk.may_leave_now c.write_run.new.disk)) c.self.view_is
    (λ was. run_keeps c.self.invariant.journal was first count c.deref.result.now joined (c.write_run.ensures.frame keeps) follows c.drop_run.new.self c.renew_run.new.cache c.drop_run.ensures
    (subst (Agrees c.renew_run.new.cache) same (c.renew_run.ensures old (omega (arith, within, was.region.waits.as_long)) was.cached))
    within holds)

pub returns-in_err-join-clause-home_moment : goal.returns-in_err-join-clause-home_moment
returns-in_err-join-clause-home_moment g c = λ keeps v batches.
    subst (λ (s : State). IsHomeKept s v batches (g.D.Disk.gives c.args.disk.now) (g.D.Disk.may_leave_now c.args.disk.now) → LeavesOnly g.D.Disk.moment g.D.Disk.may_have_left_since c.args.disk.now c.args.disk.now (HoldsHome s v batches)) c.self.view_is
    (λ was. home_at_rest c.args.disk.now was (g.met.D.Disk.only_now keeps c.args.disk.now))

pub returns-in-Err-clause-home_moment : goal.returns-in-Err-clause-home_moment
returns-in-Err-clause-home_moment g c = λ keeps v batches.
    let joined = subst (AreJoined c.self.inside.pending c.args.run.first c.args.run.count) (sym c.deref.ensures.value) c.in_ok-join.ensures in
    let home = home_part c.self.inside.home.superblock.geometry in
    let follows = subst (λ (n : ℕ). Follows (Torn (4096 * c.args.run.first) n) (LeftInside home (g.D.Disk.may_leave_now c.args.disk.now)) (LeftInside home (g.D.Disk.may_leave_now c.write_run.new.disk))) joined.size (c.write_run.ensures.leaves keeps) in
    subst (λ (s : State). IsHomeKept s v batches (g.D.Disk.gives c.args.disk.now) (g.D.Disk.may_leave_now c.args.disk.now) → LeavesOnly g.D.Disk.moment g.D.Disk.may_have_left_since c.args.disk.now c.write_run.new.disk (HoldsHome s v batches)) c.self.view_is
    (λ was. home_run_leaves was c.args.run.first c.args.run.count c.deref.result.now joined (c.write_run.ensures.frame keeps) follows (g.met.D.Disk.only_now keeps c.args.disk.now) (c.write_run.ensures.time keeps))

pub returns-clause-home_moment : goal.returns-clause-home_moment
returns-clause-home_moment g c = λ keeps v batches.
    let joined = subst (AreJoined c.self.inside.pending c.args.run.first c.args.run.count) (sym c.deref.ensures.value) c.in_ok-join.ensures in
    let home = home_part c.self.inside.home.superblock.geometry in
    let follows = subst (λ (n : ℕ). Follows (Torn (4096 * c.args.run.first) n) (LeftInside home (g.D.Disk.may_leave_now c.args.disk.now)) (LeftInside home (g.D.Disk.may_leave_now c.write_run.new.disk))) joined.size (c.write_run.ensures.leaves keeps) in
    subst (λ (s : State). IsHomeKept s v batches (g.D.Disk.gives c.args.disk.now) (g.D.Disk.may_leave_now c.args.disk.now) → LeavesOnly g.D.Disk.moment g.D.Disk.may_have_left_since c.args.disk.now c.write_run.new.disk (HoldsHome s v batches)) c.self.view_is
    (λ was. home_run_leaves was c.args.run.first c.args.run.count c.deref.result.now joined (c.write_run.ensures.frame keeps) follows (g.met.D.Disk.only_now keeps c.args.disk.now) (c.write_run.ensures.time keeps))

pub returns-clause-home_kept : goal.returns-clause-home_kept
returns-clause-home_kept g c = λ keeps v batches.
    let first = c.args.run.first in
    let count = c.args.run.count in
    let joined = subst (AreJoined c.self.inside.pending first count) (sym c.deref.ensures.value) c.in_ok-join.ensures in
    let home = home_part c.self.inside.home.superblock.geometry in
    let old = inside home (g.D.Disk.gives c.args.disk.now) in
    let follows = subst (λ (n : ℕ). Follows (Torn (4096 * first) n) (LeftInside home (g.D.Disk.may_leave_now c.args.disk.now)) (LeftInside home (g.D.Disk.may_leave_now c.write_run.new.disk))) joined.size (c.write_run.ensures.leaves keeps) in
    let holds = c.in_default.ensures.gives keeps in
    let within : first + count ≤ c.self.inside.home.superblock.geometry.blocks = subst (λ (s : State). first + count ≤ (geometry_of s).blocks) (sym c.self.view_is) c.requires.within in
    let same : put old (4096 * first) c.deref-2.result.now ≡ inside home (g.D.Disk.gives c.write_run.new.disk) = ap (put old (4096 * first)) (c.deref-2.ensures.value ∙ sym c.deref.ensures.value) ∙ sym holds in
    subst (λ (s : State). IsHomeKept s v batches (g.D.Disk.gives c.args.disk.now) (g.D.Disk.may_leave_now c.args.disk.now)
    → IsHomeKept (record { home = c.self.inside.home; journal = c.self.inside.journal; pending = c.drop_run.new.self; cache = c.renew_run.new.cache; broken = c.self.inside.broken }) v batches (g.D.Disk.gives c.write_run.new.disk) (g.D.Disk.may_leave_now c.write_run.new.disk)) c.self.view_is
    (λ was. home_run_keeps was first count c.deref.result.now joined (c.write_run.ensures.frame keeps) follows c.drop_run.new.self c.renew_run.new.cache c.drop_run.ensures
    (subst (Agrees c.renew_run.new.cache) same (c.renew_run.ensures old (omega (arith, within, was.region.waits.as_long)) was.cached))
    within holds)
