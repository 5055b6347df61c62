use Rattle.std.proofs.Common.{◌≡◌, ◌+◌, ◌<◌, ℕ, List, None, Some, arith, refl, subst, sym}
use Rattle.std.proofs.Math.Nat.{le_refl}
use Rattle.disk_model.specs.Moments.{started}
use Rattle.gate_journal.specs.Batch.{AreImages, images_size}
use Rattle.gate_journal.specs.Image.{Image}
use Rattle.local_store.specs.About.{HasRoom, meaning_with}
use Rattle.local_store.specs.Meaning.{Means}
use Rattle.version_table.specs.Held.{writes_upto}
use Rattle.chain_steps.specs.Node.{NodeState}
use Rattle.chain_steps.specs.Steps.{AreImagesOf, Begins, CanBegin, IsGroup}
use Rattle.chain_core.proofs.Counting.{begins_by, no_group}
use Rattle.chain_core.proofs.SoundCommits.{sound_begun, sound_worked}
use Rattle.chain_core.proofs.StoreReads.{first}
use Rattle.chain_core.proofs.node.Node.begin_commits.Goals as goal

pub returns-then-is_some-clause-unchanged : goal.returns-then-is_some-clause-unchanged
returns-then-is_some-clause-unchanged g c =
    (refl, first g.S.StoreLike.about g.S.StoreLike.keeps g.S.StoreLike.moment g.S.StoreLike.may_have_left_since g.S.StoreLike.may_leave_now g.met.S.StoreLike.means_now g.met.S.StoreLike.only_now c.args.self.now.store g.S.StoreLike.failures)

pub returns-then-is_some-clause-any_moment : goal.returns-then-is_some-clause-any_moment
returns-then-is_some-clause-any_moment g c = λ premise volume keep.
    started g.S.StoreLike.moment g.S.StoreLike.may_have_left_since c.args.self.now.store (Means (meaning_with (g.S.StoreLike.about c.args.self.now.store) volume))
    (λ d left. g.met.S.StoreLike.means_now premise c.args.self.now.store volume d keep (g.met.S.StoreLike.only_now premise c.args.self.now.store d left))

pub returns-then-is_some-2-clause-any_moment : goal.returns-then-is_some-2-clause-any_moment
returns-then-is_some-2-clause-any_moment g c = λ premise volume keep.
    started g.S.StoreLike.moment g.S.StoreLike.may_have_left_since c.args.self.now.store (Means (meaning_with (g.S.StoreLike.about c.args.self.now.store) volume))
    (λ d left. g.met.S.StoreLike.means_now premise c.args.self.now.store volume d keep (g.met.S.StoreLike.only_now premise c.args.self.now.store d left))

pub invariant_of-self : goal.invariant_of-self
invariant_of-self g c =
    let runs : c.self.inside.stopped ≡ None = grind (arith, c.if-is_some.false, c.is_some.ensures) in
    let about = g.S.StoreLike.about c.self.inside.store in
    let new = c.group_of.new.store in
    let none : c.self.inside.commit ≡ None = grind (arith, c.if-is_some-2.false, c.is_some-2.ensures) in
    let group = rw c.in-Ok-Some.field-0-is at c.in-Ok-Some.ensures.group in
    let read = c.in-Ok-Some.ensures.only_read in
    let worked = sound_worked _ _ _ c.self.invariant runs about.used about.stores (g.S.StoreLike.about new) (g.S.StoreLike.keeps new) (le_refl about.used) read.tells read.kept (λ premise. g.met.S.StoreLike.keeps_one premise new) in
    sound_begun _ _ _ worked runs none c.in-Ok-Some.commit
    (record {
      above = group.above;
      known = omega (arith, group.upto, c.min.ensures, c.forgotten-durable.ensures, c.self.invariant.behind);
      images = subst (λ a. AreImages a.geometry.blocks c.in-Ok-Some.commit.images) (sym read.tells) group.images;
      room = subst (λ a. HasRoom a (images_size c.in-Ok-Some.commit.images)) (sym read.tells) group.room;
    })
    (λ premise volume keep.
    let (was, kept_was, long) = (c.self.invariant.running runs).keeps premise in
    let are = rw c.in-Ok-Some.field-0-is at (c.in-Ok-Some.ensures.images premise was kept_was long) in
    subst (λ v. AreImagesOf v (writes_upto c.self.inside.table c.in-Ok-Some.commit.front) c.in-Ok-Some.commit.images) (g.met.S.StoreLike.keeps_one premise new was volume (read.kept premise was kept_was) keep) are)

pub returns-in-Ok-Some-clause-begun : goal.returns-in-Ok-Some-clause-begun
returns-in-Ok-Some-clause-begun g c = λ premise volume.
    let begun : NodeState = record {
      board = c.self.inside.board;
      place = c.self.inside.place;
      incarnation = c.self.inside.incarnation;
      stopped = c.self.inside.stopped;
      turned = c.self.inside.turned;
      holds = c.self.inside.holds;
      table = c.self.inside.table;
      known = c.self.inside.known;
      ticket = c.self.inside.ticket;
      waiting = c.self.inside.desk;
      found = None;
      commit = Some c.in-Ok-Some.commit;
    } in
    subst (λ s. g.S.StoreLike.keeps s.store volume → CanBegin s.state → c.self.inside.stopped ≡ None → Begins (HasRoom (g.S.StoreLike.about s.store)) volume c.args.most s.state begun) c.self.view_is (λ keep can still.
    let group = rw c.in-Ok-Some.field-0-is at c.in-Ok-Some.ensures.group in
    let are = rw c.in-Ok-Some.field-0-is at (c.in-Ok-Some.ensures.images premise volume keep (g.met.S.StoreLike.keeps_size premise c.self.inside.store volume keep)) in
    begins_by (g.S.StoreLike.about c.self.inside.store) volume c.args.most (c.forgotten-durable.result + c.min.result) (record begun { found = c.self.inside.found; commit = c.self.inside.commit }) c.in-Ok-Some.commit
    (omega (arith, c.min.ensures, c.forgotten-durable.ensures, c.self.invariant.behind))
    (omega (arith, c.min.ensures, c.forgotten-durable.ensures))
    (λ q known near. omega (arith, c.min.ensures, c.forgotten-durable.ensures, known, near))
    group are)

pub returns-in-Ok-None-clause-full : goal.returns-in-Ok-None-clause-full
returns-in-Ok-None-clause-full g c = λ is.
    let none : c.self.inside.commit ≡ None = grind (arith, c.if-is_some-2.false, c.is_some-2.ensures) in
    let less : c.self.inside.table.forgotten < c.self.inside.known = omega (arith, c.if-durable-self.false, c.forgotten-durable.ensures, c.self.invariant.behind) in
    let much = rw c.in-Ok-None.field-0-is at c.in-Ok-None.ensures.none in
    subst (λ s. CanBegin s.state × ((volume : List ℕ) (q : ℕ) (images : List Image) → IsGroup (HasRoom (g.S.StoreLike.about s.store)) volume c.args.most s.state q images → ⊥)) c.self.view_is
    ((none, less), λ volume q images group. no_group (g.S.StoreLike.about c.self.inside.store) volume c.args.most _ q images much group)
