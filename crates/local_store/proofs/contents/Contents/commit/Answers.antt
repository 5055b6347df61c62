use Rattle.std.proofs.Common.{◌≡◌, ◌⊎◌, ◌<◌, ◌++◌, ◌∷◌, [], List, ℕ, ◌∙◌, ap, subst, sym, Option, length}
use Rattle.std.specs.Prelude.{All, Any, ◌↔◌}
use Rattle.disk_model.specs.Disk.{LeavesOnly}
use Rattle.flusher.specs.Plan.{IsPending}
use Rattle.gate_journal.specs.Journal as journal
use Rattle.gate_journal.specs.Journal.{IsSettled}
use Rattle.gate_journal.specs.Image.{Image}
use Rattle.local_store.specs.Meaning.{Means}
use Rattle.local_store.specs.Overlay.{with_images}
use Rattle.local_store.specs.Pending.{with_pending}
use Rattle.local_store.specs.Store.{IsSound, IsStored, State, geometry_of, meaning_after, meaning_in}
use Rattle.local_store.proofs.Pends.{pends}
use Rattle.local_store.proofs.Sound.{sound_committed}
use Rattle.local_store.proofs.Stored.{at_rest_before, commit_keeps, commit_leaves}
use Rattle.local_store.proofs.contents.Contents.commit.Goals as goal

pub returns-in_err-may_commit-clause-any_moment : goal.returns-in_err-may_commit-clause-any_moment
returns-in_err-may_commit-clause-any_moment g c = λ keeps v.
    subst (λ (s : State). IsStored s v (g.D.Disk.gives c.args.disk.now) (g.D.Disk.may_leave_now c.args.disk.now)
    → LeavesOnly g.D.Disk.moment g.D.Disk.may_have_left_since c.args.disk.now c.args.disk.now (λ d. Means (meaning_in s v) d ⊎ Means (meaning_after s v c.args.front c.args.images.now) d)) c.self.view_is
    (λ was. at_rest_before _ c.args.disk.now c.self.invariant.journal was (g.met.D.Disk.only_now keeps c.args.disk.now))

pub returns-in_err-staged-clause-any_moment : goal.returns-in_err-staged-clause-any_moment
returns-in_err-staged-clause-any_moment g c = λ keeps v.
    subst (λ (s : State). IsStored s v (g.D.Disk.gives c.args.disk.now) (g.D.Disk.may_leave_now c.args.disk.now)
    → LeavesOnly g.D.Disk.moment g.D.Disk.may_have_left_since c.args.disk.now c.args.disk.now (λ d. Means (meaning_in s v) d ⊎ Means (meaning_after s v c.args.front c.args.images.now) d)) c.self.view_is
    (λ was. at_rest_before _ c.args.disk.now c.self.invariant.journal was (g.met.D.Disk.only_now keeps c.args.disk.now))

pub returns-in-Err-clause-any_moment : goal.returns-in-Err-clause-any_moment
returns-in-Err-clause-any_moment g c = λ keeps v.
    subst (λ (s : State). IsStored s v (g.D.Disk.gives c.args.disk.now) (g.D.Disk.may_leave_now c.args.disk.now)
    → LeavesOnly g.D.Disk.moment g.D.Disk.may_have_left_since c.args.disk.now c.append.new.disk (λ d. Means (meaning_in s v) d ⊎ Means (meaning_after s v c.args.front c.args.images.now) d)) c.self.view_is
    (λ was. commit_leaves c.self.invariant.journal was (record { front = c.args.front; images = c.args.images.now }) (c.append.ensures.frame keeps) (c.append.ensures.any_moment keeps was.batches was.area))

pub returns-clause-any_moment : goal.returns-clause-any_moment
returns-clause-any_moment g c = λ keeps v.
    subst (λ (s : State). IsStored s v (g.D.Disk.gives c.args.disk.now) (g.D.Disk.may_leave_now c.args.disk.now)
    → LeavesOnly g.D.Disk.moment g.D.Disk.may_have_left_since c.args.disk.now c.append.new.disk (λ d. Means (meaning_in s v) d ⊎ Means (meaning_after s v c.args.front c.args.images.now) d)) c.self.view_is
    (λ was. commit_leaves c.self.invariant.journal was (record { front = c.args.front; images = c.args.images.now }) (c.append.ensures.frame keeps) (c.append.ensures.any_moment keeps was.batches was.area))

pub keep-requires : goal.keep-requires
keep-requires g c =
    let blocks : (geometry_of c.args.self.now).blocks ≡ length c.self.inside.pending = ap (λ (s : State). (geometry_of s).blocks) (sym c.self.view_is) ∙ sym c.self.invariant.table in
    subst (λ (n : ℕ). All (λ image. image.block < n) c.in_ok-staged.staged.items) blocks
    (subst (All (λ (i : Image). i.block < (geometry_of c.args.self.now).blocks)) (sym c.in_ok-staged.ensures) c.requires.images.within)

pub invariant_of-self-2 : goal.invariant_of-self-2
invariant_of-self-2 g c =
    let here : State = record { home = c.self.inside.home; journal = c.self.inside.journal; pending = c.self.inside.pending; cache = c.self.inside.cache; broken = c.self.inside.broken } in
    let staged : c.in_ok-staged.staged.items ≡ c.args.images.now = c.in_ok-staged.ensures in
    let pending = c.keep.ensures ∙ ap (with_pending c.self.inside.pending) staged in
    subst (λ (j : journal.State). IsSound (record { home = c.self.inside.home; journal = j; pending = c.keep.new.self; cache = c.self.inside.cache; broken = c.self.inside.broken })) (sym c.in-Ok.ensures.ok)
    (subst (λ (p : List (Option (List ℕ))). IsSound (record { home = c.self.inside.home; journal = journal.appended c.self.inside.journal c.args.front c.args.images.now; pending = p; cache = c.self.inside.cache; broken = c.self.inside.broken })) (sym pending)
    (sound_committed here c.args.front c.args.images.now c.self.invariant c.requires.limit))

pub returns-clause-stored : goal.returns-clause-stored
returns-clause-stored g c = λ keeps v.
    let gives = g.D.Disk.gives c.append.new.disk in
    let left = g.D.Disk.may_leave_now c.append.new.disk in
    let staged : c.in_ok-staged.staged.items ≡ c.args.images.now = c.in_ok-staged.ensures in
    let pending = c.keep.ensures ∙ ap (with_pending c.self.inside.pending) staged in
    subst (λ (s : State). IsStored s v (g.D.Disk.gives c.args.disk.now) (g.D.Disk.may_leave_now c.args.disk.now)
    → IsStored (record { home = c.self.inside.home; journal = c.append.new.self; pending = c.keep.new.self; cache = c.self.inside.cache; broken = c.self.inside.broken }) (with_images v c.args.images.now) gives left) c.self.view_is
    (λ was.
    subst (λ (j : journal.State). IsStored (record { home = c.self.inside.home; journal = j; pending = c.keep.new.self; cache = c.self.inside.cache; broken = c.self.inside.broken }) (with_images v c.args.images.now) gives left) (sym c.in-Ok.ensures.ok)
    (subst (λ (p : List (Option (List ℕ))). IsStored (record { home = c.self.inside.home; journal = journal.appended c.self.inside.journal c.args.front c.args.images.now; pending = p; cache = c.self.inside.cache; broken = c.self.inside.broken }) (with_images v c.args.images.now) gives left) (sym pending)
    (commit_keeps c.self.invariant.journal was c.args.front c.args.images.now (c.append.ensures.frame keeps)
    (subst (λ (j : journal.State). IsSettled j (was.batches ++ record { front = c.args.front; images = c.args.images.now } ∷ []) gives left) c.in-Ok.ensures.ok (c.in-Ok.ensures.settled keeps was.batches was.area)))))

pub returns-clause-pends : goal.returns-clause-pends
returns-clause-pends g c =
    let staged : c.in_ok-staged.staged.items ≡ c.args.images.now = c.in_ok-staged.ensures in
    let pending = c.keep.ensures ∙ ap (with_pending c.self.inside.pending) staged in
    let blocks : (geometry_of c.args.self.now).blocks ≡ length c.self.inside.pending = ap (λ (s : State). (geometry_of s).blocks) (sym c.self.view_is) ∙ sym c.self.invariant.table in
    λ b.
    subst (λ (p : List (Option (List ℕ))). IsPending p b ↔ (IsPending c.args.self.now.pending b ⊎ Any (λ image. image.block ≡ b) c.args.images.now)) (sym pending)
    (subst (λ (s : State). IsPending (with_pending c.self.inside.pending c.args.images.now) b ↔ (IsPending s.pending b ⊎ Any (λ image. image.block ≡ b) c.args.images.now)) c.self.view_is
    (pends (λ image. image.bytes) b c.args.images.now c.self.inside.pending (subst (λ (n : ℕ). All (λ image. image.block < n) c.args.images.now) blocks c.requires.images.within)))
