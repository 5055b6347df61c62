use Rattle.std.proofs.Common.{◌≡◌, ◌∙◌, ap, arith, inl, inr, length, refl, subst, sym, None}
use Rattle.std.proofs.Math.Nat.{le_refl}
use Rattle.std.proofs.lemmas.Bool.{cases_lt}
use Rattle.home_blocks.specs.Superblock.{Superblock}
use Rattle.volume.specs.declared.geometry.Geometry.{Geometry}
use Rattle.std.proofs.lemmas.List.{length-set, get_or_past}
use Rattle.disk_model.specs.Disk.{LeavesOnly}
use Rattle.disk_model.specs.Moments.{then_run}
use Rattle.local_store.specs.Meaning.{Means}
use Rattle.local_store.specs.Pending.{held}
use Rattle.local_store.specs.Store.{IsStored, State, meaning_in, with_home}
use Rattle.local_store.proofs.Homes.{held_below}
use Rattle.local_store.proofs.Stored.{at_rest}
use Rattle.local_store.proofs.contents.Contents.bring_all_home.Goals as goal

same_but : (next new loop start : State) → new ≡ next → loop ≡ record start { pending = loop.pending; cache = loop.cache } → next ≡ record loop { pending = next.pending; cache = next.cache } → new ≡ record start { pending = new.pending; cache = new.cache }
same_but next new loop start is same kept = is ∙ kept ∙ ap (λ (s : State). record s { pending = next.pending; cache = next.cache }) same ∙ ap (λ (s : State). record start { pending = s.pending; cache = s.cache }) (sym is)

pub loop-block-init : goal.loop-block-init
loop-block-init g c = (
  refl,
  λ b below. absurd (omega (arith, below)),
  refl,
  refl,
  refl,
  le_refl _,
  le_refl _,
  λ keeps v was. was,
  λ keeps v. subst (λ (s : State). IsStored s v (g.D.Disk.gives c.args.disk.now) (g.D.Disk.may_leave_now c.args.disk.now) → LeavesOnly g.D.Disk.moment g.D.Disk.may_have_left_since c.args.disk.now c.args.disk.now (Means (meaning_in s v))) c.self.view_is
      (λ was. at_rest c.args.disk.now c.self.invariant.journal was (g.met.D.Disk.only_now keeps c.args.disk.now)),
)

pub returns-clause-home : goal.returns-clause-home
returns-clause-home g c = λ b.
    let (same, empty, long, size, failures, most, calls, stored, left) = c.loop-block.invariant in
    elim (cases_lt b c.loop-block.block) [
      | inl below ↦ empty b below
      | inr past ↦ get_or_past c.loop-block.self.pending b None (omega (arith, past, c.loop-block-test.false, long, ap (λ (s : State). length s.pending) (sym c.self.view_is), c.self.invariant.table, ap (λ (k : Geometry). k.blocks) (c.geometry-geometry.ensures ∙ ap (λ (b : Superblock). b.geometry) c.superblock.ensures)))
    ]

pub returns-in_err-bring_home-clause-any_moment : goal.returns-in_err-bring_home-clause-any_moment
returns-in_err-bring_home-clause-any_moment g c = λ keeps v was.
    let (same, empty, long, size, failures, most, calls, stored, left) = c.loop-block.invariant in
    then_run g.D.Disk.moment g.D.Disk.may_have_left_since c.args.disk.now c.loop-block.disk c.bring_home.new.disk _ (left keeps v was)
    (subst (λ (s : State). LeavesOnly g.D.Disk.moment g.D.Disk.may_have_left_since c.loop-block.disk c.bring_home.new.disk (Means (meaning_in s v))) same (c.bring_home.ensures.any_moment keeps v (stored keeps v was)))

pub loop-block-preserved : goal.loop-block-preserved
loop-block-preserved g c =
    let (same, empty, long, size, failures, most, calls, stored, left) = c.loop-block.invariant in
    let done = c.in_ok-bring_home.ensures in (
      same_but (with_home c.loop-block.self c.loop-block.block c.bring_home.new.self.cache) c.bring_home.new.self c.loop-block.self c.args.self.now done.ok same refl,
      λ b below. subst (λ (s : State). held s.pending b ≡ None) (sym done.ok) (held_below c.loop-block.self.pending c.loop-block.block b empty below),
      ap (λ (s : State). length s.pending) done.ok ∙ length-set c.loop-block.self.pending c.loop-block.block None ∙ long,
      c.bring_home.ensures.size ∙ size,
      done.cause.done ∙ failures,
      omega (arith, most, c.bring_home.ensures.most),
      omega (arith, calls, done.pays),
      λ keeps v was. done.stored keeps v (stored keeps v was),
      λ keeps v was. then_run g.D.Disk.moment g.D.Disk.may_have_left_since c.args.disk.now c.loop-block.disk c.bring_home.new.disk _ (left keeps v was)
          (subst (λ (s : State). LeavesOnly g.D.Disk.moment g.D.Disk.may_have_left_since c.loop-block.disk c.bring_home.new.disk (Means (meaning_in s v))) same (c.bring_home.ensures.any_moment keeps v (stored keeps v was))),
    )

pub returns-clause-pays : goal.returns-clause-pays
returns-clause-pays g c = let (same, empty, long, size, failures, most, calls, stored, left) = c.loop-block.invariant in omega (arith, calls)

pub returns-in_err-bring_home-clause-calls : goal.returns-in_err-bring_home-clause-calls
returns-in_err-bring_home-clause-calls g c = let (same, empty, long, size, failures, most, calls, stored, left) = c.loop-block.invariant in omega (arith, calls, c.bring_home.ensures.calls)

pub returns-clause-calls : goal.returns-clause-calls
returns-clause-calls g c = let (same, empty, long, size, failures, most, calls, stored, left) = c.loop-block.invariant in omega (arith, calls)

pub returns-in_err-bring_home-clause-most : goal.returns-in_err-bring_home-clause-most
returns-in_err-bring_home-clause-most g c = let (same, empty, long, size, failures, most, calls, stored, left) = c.loop-block.invariant in omega (arith, most, c.bring_home.ensures.most)

pub returns-clause-most : goal.returns-clause-most
returns-clause-most g c = let (same, empty, long, size, failures, most, calls, stored, left) = c.loop-block.invariant in most
