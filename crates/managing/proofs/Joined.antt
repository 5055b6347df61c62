-- The store of a disk that has the volume.
use Rattle.std.proofs.Common.{◌≡◌, ℕ, List, Option, Some, None, refl, subst, sym}
use Rattle.std.specs.Prelude.{IsSomeAnd}
use Rattle.std.specs.Option.{ForSome}
use Rattle.home_blocks.specs.Superblock.{Superblock}
use Rattle.local_store.specs.About.{About}
use Rattle.rejoin_catchup.specs.Receiving.{Installation, IsTaking}
use Rattle.managing.specs.Joiner.{HasVolume}

pub has_volume : {S : Type 0} (about : S → About) (keeps : S → List ℕ → Type 0) (sb : Superblock) (front : ℕ) (volume : List ℕ) (store same : S) → same ≡ store
    → keeps store volume → (about store).slot ≡ sb.slot → (about store).incarnation ≡ sb.incarnation → (about store).geometry ≡ sb.geometry → (about store).front ≡ front
    → HasVolume about keeps sb front volume same
has_volume about keeps sb front volume store same is kept slot incarnation sizes front_is =
    subst (HasVolume about keeps sb front volume) (sym is) (record { kept = kept; slot = slot; incarnation = incarnation; sizes = sizes; front_is = front_is })

-- what holds of the slot of a disk that is given the volume holds of the superblock's
pub at_slot : {D : Type 0} (gives : D → List ℕ) (leaves : D → List ℕ → Type 0) (sb : Superblock) (copy : List ℕ) (o : Option (Installation D)) (Q : ℕ → Type 0)
    → IsSomeAnd o (IsTaking gives leaves sb copy) → ForSome o (λ i. Q i.home.superblock.slot) → Q sb.slot
at_slot gives leaves sb copy (Some i) Q taking all = subst (λ (s : Superblock). Q s.slot) taking.superblock (all i refl)
at_slot gives leaves sb copy None Q taking all = absurd taking
