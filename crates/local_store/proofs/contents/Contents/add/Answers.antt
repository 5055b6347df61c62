use Rattle.std.proofs.Common.{◌≡◌, ◌⊎◌, ◌+◌, ◌<◌, ℕ, List, Option, ◌∙◌, ap, length, subst, sym}
use Rattle.std.specs.Prelude.{All, Any, ◌↔◌}
use Rattle.flusher.specs.Plan.{IsPending}
use Rattle.gate_journal.specs.Journal as journal
use Rattle.local_store.specs.Pending.{with_pending}
use Rattle.local_store.specs.Store.{IsSound, State, geometry_of}
use Rattle.local_store.proofs.Pends.{pends}
use Rattle.local_store.proofs.Sound.{sound_committed}
use Rattle.local_store.proofs.contents.Contents.add.Goals as goal

pub keep-requires : goal.keep-requires
keep-requires c =
    let blocks : (geometry_of c.args.self.now).blocks ≡ length c.self.inside.pending = ap (λ (s : State). (geometry_of s).blocks) (sym c.self.view_is) ∙ sym c.self.invariant.table in
    subst (λ (n : ℕ). All (λ image. image.block < n) c.args.staged.items) blocks c.requires.images

pub invariant_of-self : goal.invariant_of-self
invariant_of-self c =
    let here : State = record { home = c.self.inside.home; journal = c.self.inside.journal; pending = c.self.inside.pending; cache = c.self.inside.cache; broken = c.self.inside.broken } in
    subst (λ (j : journal.State). IsSound (record { home = c.self.inside.home; journal = j; pending = c.keep.new.self; cache = c.self.inside.cache; broken = c.self.inside.broken }))
    (ap (λ (n : ℕ). record c.self.inside.journal { front = c.args.front; end = c.self.inside.journal.end + n }) (sym c.requires.size) ∙ sym c.note.ensures)
    (subst (λ (p : List (Option (List ℕ))). IsSound (record { home = c.self.inside.home; journal = journal.appended c.self.inside.journal c.args.front (c.args.staged.items); pending = p; cache = c.self.inside.cache; broken = c.self.inside.broken })) (sym c.keep.ensures)
    (sound_committed here c.args.front (c.args.staged.items) c.self.invariant c.requires.limit))

pub returns-clause-pends : goal.returns-clause-pends
returns-clause-pends c =
    let images = c.args.staged.items in
    let blocks : (geometry_of c.args.self.now).blocks ≡ length c.self.inside.pending = ap (λ (s : State). (geometry_of s).blocks) (sym c.self.view_is) ∙ sym c.self.invariant.table in
    λ b.
    subst (λ (p : List (Option (List ℕ))). IsPending p b ↔ (IsPending c.args.self.now.pending b ⊎ Any (λ image. image.block ≡ b) images)) (sym c.keep.ensures)
    (subst (λ (s : State). IsPending (with_pending c.self.inside.pending images) b ↔ (IsPending s.pending b ⊎ Any (λ image. image.block ≡ b) images)) c.self.view_is
    (pends (λ image. image.bytes) b images c.self.inside.pending (subst (λ (n : ℕ). All (λ image. image.block < n) images) blocks c.requires.images)))
