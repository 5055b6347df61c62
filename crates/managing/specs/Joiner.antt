-- What a disk on its way into the chain has taken.
use Rattle.std.specs.Prelude.{◌≡◌, ℕ, List}
use Rattle.home_blocks.specs.Superblock.{Superblock}
use Rattle.local_store.specs.About.{About}
use Rattle.rejoin_catchup.specs.Receiving.{HasTaken}
use Rattle.managing.specs.declared.joiner.Joiner.{Joiner}
use Rattle.managing.specs.declared.joiner.Joiner.TheVariants.{Counted, Nobody, Ready, Receives}

-- The store has this volume, and tells that it is of the slot, the incarnation and the sizes of the superblock, at the front.
pub record HasVolume {S : Type 0} (about : S → About) (keeps : S → List ℕ → Type 0) (sb : Superblock) (front : ℕ) (volume : List ℕ) (store : S) : Type 0 where
  pub kept : keeps store volume
  pub slot : (about store).slot ≡ sb.slot
  pub incarnation : (about store).incarnation ≡ sb.incarnation
  pub sizes : (about store).geometry ≡ sb.geometry
  pub front_is : (about store).front ≡ front

-- its disk is given the volume, and has taken this copy so far
abbrev pub HasTakenSo : {S D J : Type 0} → (D → List ℕ) → (D → List ℕ → Type 0) → Superblock → List ℕ → Joiner S D J → Type 0
HasTakenSo gives leaves sb copy (Receives receiver) = HasTaken gives leaves sb copy receiver
HasTakenSo gives leaves sb copy Nobody = ⊥
HasTakenSo gives leaves sb copy (Ready whole receipt) = ⊥
HasTakenSo gives leaves sb copy (Counted whole) = ⊥

-- its disk has this volume at the front, and the receipt is for that
abbrev pub IsReadyAt : {S D J : Type 0} → (S → About) → (S → List ℕ → Type 0) → Superblock → ℕ → List ℕ → Joiner S D J → Type 0
IsReadyAt about keeps sb front volume (Ready whole receipt) = HasVolume about keeps sb front volume whole × (receipt ≡ record { slot = sb.slot; front = front })
IsReadyAt about keeps sb front volume Nobody = ⊥
IsReadyAt about keeps sb front volume (Receives receiver) = ⊥
IsReadyAt about keeps sb front volume (Counted whole) = ⊥
