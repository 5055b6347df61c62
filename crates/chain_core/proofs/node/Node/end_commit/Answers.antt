use Rattle.std.proofs.Common.{◌≡◌, ◌⊎◌, ◌∙◌, ℕ, List, Err, None, Some, arith, ap, subst, sym}
use Rattle.std.specs.Prelude.{Any, IfSome, IsSomeAnd, ◌↔◌, fold}
use Rattle.std.proofs.lemmas.Bool.{both_ways}
use Rattle.disk_model.specs.Disk.{LeavesOnly}
use Rattle.gate_journal.specs.Batch.{AreImages, images_size}
use Rattle.gate_journal.specs.Receipt.{Receipt}
use Rattle.gate_journal.specs.Image.{Image}
use Rattle.local_store.specs.Overlay.{with_images}
use Rattle.local_store.specs.declared.refusal.Refusal.{Refusal}
use Rattle.version_table.specs.Held.{writes_upto}
use Rattle.volume.specs.Writes.{patched}
use Rattle.local_store.specs.About.{meaning_then, meaning_with, one_commit_more}
use Rattle.local_store.specs.Meaning.{Means}
use Rattle.chain_steps.specs.Steps.{volume_at}
use Rattle.chain_core.proofs.SoundCommits.{commit_cause, images_are, leaves_commit, sound_ended, way_applied, way_limit, way_runs}
use Rattle.chain_core.proofs.node.Node.end_commit.Goals as goal

pub commit-requires-clause-images : goal.commit-requires-clause-images
commit-requires-clause-images g c =
    let here : c.self.inside.commit ≡ Some (record { front = c.commit.inside.front; images = c.commit.inside.images.items }) = grind (arith, c.in-Some.is, c.in-Some.ensures.value, c.commit.view_is) in
    subst (AreImages (g.S.StoreLike.about c.self.inside.store).geometry.blocks) (sym c.deref.ensures.value) (c.self.invariant.under_way _ here).images

pub commit-requires-clause-limit : goal.commit-requires-clause-limit
commit-requires-clause-limit g c =
    let here : c.self.inside.commit ≡ Some (record { front = c.commit.inside.front; images = c.commit.inside.images.items }) = grind (arith, c.in-Some.is, c.in-Some.ensures.value, c.commit.view_is) in
    way_limit _ _ _ c.self.invariant _ here

pub forget_to-requires-clause-applied : goal.forget_to-requires-clause-applied
forget_to-requires-clause-applied g c =
    let here : c.self.inside.commit ≡ Some (record { front = c.commit.inside.front; images = c.commit.inside.images.items }) = grind (arith, c.in-Some.is, c.in-Some.ensures.value, c.commit.view_is) in
    way_applied _ _ _ c.self.invariant _ here

pub invariant_of-self-in-Ok : goal.invariant_of-self-in-Ok
invariant_of-self-in-Ok g c =
    let here : c.self.inside.commit ≡ Some (record { front = c.commit.inside.front; images = c.commit.inside.images.items }) = grind (arith, c.in-Some.is, c.in-Some.ensures.value, c.commit.view_is) in
    let back : (g.S.StoreLike.about c.self.inside.store).lent ≡ None = subst (λ s. (g.S.StoreLike.about s.store).lent ≡ None) (sym c.self.view_is) c.requires.here in
    let images = c.deref.ensures.value in
    rw (c.forget_to.ensures, c.take.ensures.after) (sound_ended _ _ _ c.self.invariant _ here (g.S.StoreLike.about c.commit-2.new.self) (g.S.StoreLike.keeps c.commit-2.new.self) back
    (c.in-Ok.ensures.ok ∙ ap (λ (l : List Image). one_commit_more (g.S.StoreLike.about c.self.inside.store) c.commit.inside.front l) images)
    (λ premise volume keep. subst (λ (l : List Image). g.S.StoreLike.keeps c.commit-2.new.self (with_images volume l)) images (c.in-Ok.ensures.kept premise volume keep)))

pub returns-in-Ok-clause-kept : goal.returns-in-Ok-clause-kept
returns-in-Ok-clause-kept g c = λ premise volume.
    let here : c.self.inside.commit ≡ Some (record { front = c.commit.inside.front; images = c.commit.inside.images.items }) = grind (arith, c.in-Some.is, c.in-Some.ensures.value, c.commit.view_is) in
    let images = c.deref.ensures.value in
    let front : c.in-Ok.receipt.front ≡ c.commit.inside.front = ap (λ (r : Receipt). r.front) c.in-Ok.ensures.receipt in
    subst (λ s. g.S.StoreLike.keeps s.store volume → g.S.StoreLike.keeps c.commit-2.new.self (volume_at volume s.state c.in-Ok.receipt.front)) c.self.view_is (λ keep.
    subst (λ n. g.S.StoreLike.keeps c.commit-2.new.self (fold patched volume (writes_upto c.self.inside.table n))) (sym front)
    (subst (g.S.StoreLike.keeps c.commit-2.new.self) (images_are _ _ _ c.self.invariant _ here volume premise keep (g.met.S.StoreLike.keeps_size premise c.self.inside.store volume keep))
    (subst (λ (l : List Image). g.S.StoreLike.keeps c.commit-2.new.self (with_images volume l)) images (c.in-Ok.ensures.kept premise volume keep))))

pub returns-in-Ok-clause-any_moment : goal.returns-in-Ok-clause-any_moment
returns-in-Ok-clause-any_moment g c = λ premise volume.
    let here : c.self.inside.commit ≡ Some (record { front = c.commit.inside.front; images = c.commit.inside.images.items }) = grind (arith, c.in-Some.is, c.in-Some.ensures.value, c.commit.view_is) in
    subst (λ s. g.S.StoreLike.keeps s.store volume → LeavesOnly g.S.StoreLike.moment g.S.StoreLike.may_have_left_since s.store c.commit-2.new.self
    (λ d. Means (meaning_with (g.S.StoreLike.about s.store) volume) d ⊎ IsSomeAnd s.state.commit (λ k. Means (meaning_with (record (g.S.StoreLike.about s.store) { front = k.front }) (volume_at volume s.state k.front)) d))) c.self.view_is (λ keep.
    leaves_commit _ _ _ c.self.invariant _ here g.S.StoreLike.moment g.S.StoreLike.may_have_left_since c.self.inside.store c.commit-2.new.self volume premise keep (g.met.S.StoreLike.keeps_size premise c.self.inside.store volume keep)
    (subst (λ (l : List Image). LeavesOnly g.S.StoreLike.moment g.S.StoreLike.may_have_left_since c.self.inside.store c.commit-2.new.self
    (λ d. Means (meaning_with (g.S.StoreLike.about c.self.inside.store) volume) d ⊎ Means (meaning_then (g.S.StoreLike.about c.self.inside.store) volume c.commit.inside.front l) d)) c.deref.ensures.value (c.in-Ok.ensures.any_moment premise volume keep)))

pub returns-clause-any_moment : goal.returns-clause-any_moment
returns-clause-any_moment g c = λ premise volume.
    let here : c.self.inside.commit ≡ Some (record { front = c.commit.inside.front; images = c.commit.inside.images.items }) = grind (arith, c.in-Some.is, c.in-Some.ensures.value, c.commit.view_is) in
    let store : c.stop_by.new.self.store ≡ c.commit-2.new.self = grind (arith, c.stop_by.ensures.step.node) in
    subst (λ s. g.S.StoreLike.keeps s.store volume → LeavesOnly g.S.StoreLike.moment g.S.StoreLike.may_have_left_since s.store c.stop_by.new.self.store
    (λ d. Means (meaning_with (g.S.StoreLike.about s.store) volume) d ⊎ IsSomeAnd s.state.commit (λ k. Means (meaning_with (record (g.S.StoreLike.about s.store) { front = k.front }) (volume_at volume s.state k.front)) d))) c.self.view_is (λ keep.
    leaves_commit _ _ _ c.self.invariant _ here g.S.StoreLike.moment g.S.StoreLike.may_have_left_since c.self.inside.store c.stop_by.new.self.store volume premise keep (g.met.S.StoreLike.keeps_size premise c.self.inside.store volume keep)
    (subst (λ (l : List Image). LeavesOnly g.S.StoreLike.moment g.S.StoreLike.may_have_left_since c.self.inside.store c.stop_by.new.self.store
    (λ d. Means (meaning_with (g.S.StoreLike.about c.self.inside.store) volume) d ⊎ Means (meaning_then (g.S.StoreLike.about c.self.inside.store) volume c.commit.inside.front l) d)) c.deref.ensures.value
    (subst (λ t. LeavesOnly g.S.StoreLike.moment g.S.StoreLike.may_have_left_since c.self.inside.store t
    (λ d. Means (meaning_with (g.S.StoreLike.about c.self.inside.store) volume) d ⊎ Means (meaning_then (g.S.StoreLike.about c.self.inside.store) volume c.commit.inside.front c.deref.result.now) d)) (sym store) (c.in-Err.ensures.any_moment premise volume keep))))

pub cause_of-cause-requires : goal.cause_of-cause-requires
cause_of-cause-requires g c =
    let here : c.self.inside.commit ≡ Some (record { front = c.commit.inside.front; images = c.commit.inside.images.items }) = grind (arith, c.in-Some.is, c.in-Some.ensures.value, c.commit.view_is) in
    let way = c.self.invariant.under_way _ here in
    let size : images_size c.deref.result.now ≡ images_size c.commit.inside.images.items = ap images_size c.deref.ensures.value in
    let runs = (c.self.invariant.running (way_runs _ _ _ c.self.invariant _ here)).whole in
    commit_cause c.in-Err.refusal c.in-Err.ensures.told
    (λ is. both_ways _ runs (c.in-Err.ensures.broken.0 (ap (λ (r : Refusal). Err r) is)))
    (λ is. let back = (c.in-Err.ensures.backwards.0 (ap (λ (r : Refusal). Err r) is)).1 in omega (arith, back, way.above, c.self.invariant.front))
    (λ is. let full = (c.in-Err.ensures.full.0 (ap (λ (r : Refusal). Err r) is)).2 in omega (arith, full, way.room, size))

pub returns-in-Ok-clause-pends : goal.returns-in-Ok-clause-pends
returns-in-Ok-clause-pends g c =
    let here : c.self.inside.commit ≡ Some (record { front = c.commit.inside.front; images = c.commit.inside.images.items }) = grind (arith, c.in-Some.is, c.in-Some.ensures.value, c.commit.view_is) in
    let is_pending = g.S.StoreLike.is_pending in
    subst (λ s. IfSome s.state.commit (λ commit. (b : ℕ) → is_pending c.commit-2.new.self b ↔ (is_pending s.store b ⊎ Any (λ image. image.block ≡ b) commit.images))) c.self.view_is
    (subst (λ o. IfSome o (λ commit. (b : ℕ) → is_pending c.commit-2.new.self b ↔ (is_pending c.self.inside.store b ⊎ Any (λ image. image.block ≡ b) commit.images))) (sym here)
    (subst (λ (l : List Image). (b : ℕ) → is_pending c.commit-2.new.self b ↔ (is_pending c.self.inside.store b ⊎ Any (λ image. image.block ≡ b) l)) c.deref.ensures.value c.in-Ok.ensures.pends))
