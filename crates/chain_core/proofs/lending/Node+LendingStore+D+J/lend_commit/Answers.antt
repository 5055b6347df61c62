use Rattle.std.proofs.Common.{◌≡◌, ◌∙◌, Err, List, Some, ap, arith, subst, sym}
use Rattle.std.proofs.lemmas.Bool.{both_ways}
use Rattle.gate_journal.specs.Batch.{AreImages, Batch, images_size}
use Rattle.gate_journal.specs.Image.{Image}
use Rattle.gate_journal.specs.Journal.{IsSettled}
use Rattle.local_store.specs.KeptAway.{one_either}
use Rattle.local_store.specs.declared.refusal.Refusal.{Refusal}
use Rattle.chain_core.proofs.SoundCommits.{commit_cause, way_limit, way_runs}
use Rattle.chain_core.proofs.SoundLending.{lent_for, sound_lent}
use Rattle.chain_core.proofs.lending.Node+LendingStore+D+J.lend_commit.Goals as goal

pub lend_commit-requires-clause-images : goal.lend_commit-requires-clause-images
lend_commit-requires-clause-images g c =
    let here : c.self.inside.commit ≡ Some (record { front = c.commit.inside.front; images = c.commit.inside.images.items }) = grind (arith, c.in-Some.is, c.commit.view_is) in
    subst (AreImages c.self.inside.store.contents.home.superblock.geometry.blocks) (sym c.deref.ensures.value) (c.self.invariant.under_way _ here).images

pub lend_commit-requires-clause-limit : goal.lend_commit-requires-clause-limit
lend_commit-requires-clause-limit g c =
    let here : c.self.inside.commit ≡ Some (record { front = c.commit.inside.front; images = c.commit.inside.images.items }) = grind (arith, c.in-Some.is, c.commit.view_is) in
    way_limit _ _ _ c.self.invariant _ here

pub invariant_of-self : goal.invariant_of-self
invariant_of-self g c =
    let here : c.self.inside.commit ≡ Some (record { front = c.commit.inside.front; images = c.commit.inside.images.items }) = grind (arith, c.in-Some.is, c.commit.view_is) in
    let batch : Batch = record { front = c.commit.inside.front; images = c.deref.result.now } in
    let store = c.lend_commit.new.self in
    sound_lent _ _ _ c.self.invariant (way_runs _ _ _ c.self.invariant _ here) (Some batch)
    (lent_for batch _ (here ∙ ap (λ (l : List Image). Some (record { front = c.commit.inside.front; images = l })) (sym c.deref.ensures.value))) _ _ c.in-Ok.ensures.about c.in-Ok.ensures.kept
    (λ premise one other kept too. one_either store.lent (λ l. g.D.HalvedDisk.left_before l.past (g.D.HalvedDisk.until l.past)) (λ l j bs. IsSettled j bs (g.D.Log.Disk.gives l.was.value) (g.D.Log.Disk.may_leave_now l.was.value)) store.contents one other
    (g.D.Disk.gives store.disk) (g.D.Disk.may_leave_now store.disk) kept too)

pub cause_of-cause-requires : goal.cause_of-cause-requires
cause_of-cause-requires g c =
    let here : c.self.inside.commit ≡ Some (record { front = c.commit.inside.front; images = c.commit.inside.images.items }) = grind (arith, c.in-Some.is, c.commit.view_is) in
    let way = c.self.invariant.under_way _ here in
    let size : images_size c.deref.result.now ≡ images_size c.commit.inside.images.items = ap images_size c.deref.ensures.value in
    let runs = (c.self.invariant.running (way_runs _ _ _ c.self.invariant _ here)).whole in
    commit_cause c.in-Err.refusal c.in-Err.ensures.told
    (λ is. both_ways _ runs (c.in-Err.ensures.broken.0 (ap (λ (r : Refusal). Err r) is)))
    (λ is. let back = (c.in-Err.ensures.backwards.0 (ap (λ (r : Refusal). Err r) is)).1 in omega (arith, back, way.above, c.self.invariant.front))
    (λ is. let full = (c.in-Err.ensures.full.0 (ap (λ (r : Refusal). Err r) is)).2 in omega (arith, full, way.room, size))
