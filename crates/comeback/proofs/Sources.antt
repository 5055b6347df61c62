-- What is said of the source's store and disk.
use Rattle.std.proofs.Common.{◌≡◌, ◌⊎◌, ◌∷◌, ◌∙◌, [], ap, inl, inr, refl, subst, sym, ℕ, List, Option, map}
use Rattle.std.specs.Prelude.{All, None, Some, IfSome, slice_get}
use Rattle.std.specs.Option.{option_map}
use Rattle.std.proofs.lemmas.Option.{slice_get-map}
use Rattle.configurations.specs.Record.{Record}
use Rattle.disk_model.specs.Disk.{LeavesOnly}
use Rattle.disk_model.specs.Moments.{then_run, weaker}
use Rattle.gate_journal.specs.Runs.{OnlyReads}
use Rattle.home_blocks.specs.declared.version.Version.{Version}
use Rattle.home_blocks.specs.declared.version.Version.TheVariants.{One, Two}
use Rattle.local_store.specs.About.{About, meaning_with, migrated}
use Rattle.local_store.specs.Meaning.{Meaning, Means}
use Rattle.folder.specs.Restart.{GoesOn}
use Rattle.chain.specs.Chain.{Chained}
use Rattle.comeback.specs.Recovering.{IsSlotAt, LeavesMeaning}
use Rattle.comeback.proofs.Setting.{hold_one}

-- migrated or not, the store is at its front, with its sizes, of its slot
pub as_it_was : (was now : About) → (now ≡ was) ⊎ (now ≡ migrated was) → (now.front ≡ was.front) × (now.geometry ≡ was.geometry) × (now.slot ≡ was.slot)
as_it_was was now (inl same) = (ap (λ a. a.front) same, ap (λ a. a.geometry) same, ap (λ a. a.slot) same)
as_it_was was now (inr same) = (ap (λ a. a.front) same, ap (λ a. a.geometry) same, ap (λ a. a.slot) same)

-- a version that isn't 2 is 1
pub version_one : (v : Version) → (v ≡ Two → ⊥) → v ≡ One
version_one One other = refl
version_one Two other = absurd (other refl)

-- the slot of the store that goes on is that of its place
pub slot_at : {S : Type 0} (about : S → About) (keeps : S → List ℕ → Type 0) (config : List ℕ) (disks : List (List ℕ)) (place : ℕ) (store : S) (now : Record) (slot : ℕ) → GoesOn about keeps config disks place store now
    → slot ≡ (about store).slot → IsSlotAt disks place slot
slot_at about keeps config disks place store now slot on is = record {
  bytes = on.source.is.bytes;
  there = on.source.is.there;
  meaning = meaning_with (about store) on.volume;
  means = on.source.is.is.means;
  is = is;
}

module _ {D : Type 0} (gives : D → List ℕ) (may_leave : D → List ℕ → Type 0) (moment : D → ℕ) (left_since : D → ℕ → List ℕ → Type 0) where
  -- a disk that was only read, and then means this at any stop, means it still
  pub leaves_meaning : (meaning : Meaning) (old was new : D) → OnlyReads gives may_leave moment left_since old was → LeavesOnly moment left_since was new (Means meaning) → LeavesMeaning may_leave moment left_since meaning old new
  leaves_meaning meaning old was new reads run = then_run moment left_since old was new (λ c. may_leave old c ⊎ Means meaning c)
      (weaker moment left_since old was (may_leave old) (λ c. may_leave old c ⊎ Means meaning c) (λ c left. inl left) reads.moments)
      (weaker moment left_since was new (Means meaning) (λ c. may_leave old c ⊎ Means meaning c) (λ c means. inr means) run)

  -- so does the disk at a place, whose bytes mean it, where its store is that of the one member
  pub still_there : {S : Type 0} (disk_of : S → D) (disks : List D) (place : ℕ) (bytes : List ℕ) (meaning : Meaning) (was : D) (store : S) (c : Chained S) → map (λ m. m.node.store) c.members ≡ store ∷ []
      → slice_get (map gives disks) place ≡ Some bytes → Means meaning bytes → IfSome (slice_get disks place) (λ disk. OnlyReads gives may_leave moment left_since disk was) → LeavesOnly moment left_since was (disk_of store) (Means meaning)
      → IfSome (slice_get disks place) (λ disk. (m : Meaning) × Means m (gives disk) × All (λ member. LeavesMeaning may_leave moment left_since m disk (disk_of member.node.store)) c.members)
  still_there {S} disk_of disks place bytes meaning was store c one there means reads run = at (slice_get disks place) (sym (slice_get-map gives disks place) ∙ there) reads
    where
      at : (o : Option D) → option_map gives o ≡ Some bytes → IfSome o (λ disk. OnlyReads gives may_leave moment left_since disk was)
          → IfSome o (λ disk. (m : Meaning) × Means m (gives disk) × All (λ member. LeavesMeaning may_leave moment left_since m disk (disk_of member.node.store)) c.members)
      at None is read = tt
      at (Some disk) is read =
          let same : bytes ≡ gives disk = cc in (
            meaning,
            subst (Means meaning) same means,
            hold_one (λ s. LeavesMeaning may_leave moment left_since meaning disk (disk_of s)) store c one (leaves_meaning meaning disk was (disk_of store) read run),
          )
