-- A member's disk after a cut, and why it may not return: lemmas.
use Rattle.std.proofs.Common.{◌≡◌, ℕ, ◌<◌, List, ◌∷◌, ◌++◌, refl, sym, subst, inl, inr, arith}
use Rattle.std.specs.Prelude.{◌⊎◌, All, Err, IfErr, IfSome, IsErrAnd, None, Ok, Option, Result, Some, slice_get}
use Rattle.std.specs.List.{AllZip}
use Rattle.chain.specs.Chain.{bytes_of}
use Rattle.chain.specs.Member.{IsShown, Linked}
use Rattle.chain.proofs.Cells.{place_of as cell_of, twin_of}
use Rattle.disk_model.specs.Memory.{given_of}
use Rattle.disk_model.specs.declared.content.Cut.{Cut}
use Rattle.disk_model.specs.declared.memory.MemDisk.{MemDisk}
use Rattle.home_blocks.specs.Home.{IsNoVolume, IsOtherVersion}
use Rattle.local_store.specs.About.{About, migrated}
use Rattle.local_store.specs.Kept.{stored_means}
use Rattle.local_store.specs.Meaning.{HasDamagedArea, IsOpenable, IsUnfinished}
use Rattle.local_store.specs.Refusal.{IsNotOfDevice, IsOfOpening}
use Rattle.local_store.specs.declared.refusal.Refusal as store
use Rattle.local_store.specs.declared.refusal.Refusal.TheVariants as stores
use Rattle.volume.specs.declared.geometry.Geometry.{Geometry}
use Rattle.world.specs.World.{Seen, Shows}
use Rattle.chain_model.specs.View.{View}
use Rattle.life.specs.Begun.{AreOnDisks, IsCutFrom, IsOfMember}
use Rattle.life.specs.Managed.{Managed}
use Rattle.life.specs.Headline.{BreaksOff, EndsAtReturn, IsOneLife}
use Rattle.life.specs.Refusal.{IsOfMemory, IsOfReopening}
use Rattle.life.specs.declared.era.Answers.{Answers}
use Rattle.life.specs.declared.era.Era.{Era}
use Rattle.life.specs.declared.refusal.Refusal.{Refusal}
use Rattle.life.specs.declared.refusal.Refusal.TheVariants.{Store}
use Rattle.life.proofs.Owners.{KeepOwn, own_of}
use Rattle.life.proofs.Places.{all_at, of_mapped}
use Rattle.life.proofs.Starting.{IsStore, about_of_store, all_mapped, disk_in, keeps_volume, leaves_now}

-- what is so of what is there
pub if_some : {A : Type 0} (o : Option A) (P : A → Type 0) → ((x : A) → o ≡ Some x → P x) → IfSome o P
if_some None P each = tt
if_some (Some x) P each = each x refl

-- what is so of an error is so of it where it is passed on
pub passed_on : {T E : Type 0} (result : Result T E) (e : E) (P : E → Type 0) → IsErrAnd result (λ y. y ≡ e) → P e → IfErr result P
passed_on (Ok t) e P is so = tt
passed_on (Err y) e P is so = subst P (sym is) so

-- ---- a store that may have been migrated

-- it is of the member that it was of, with the sizes and the front that it had
pub migrated_as : (now before : About) → (now ≡ before) ⊎ (now ≡ migrated before) → (P : ℕ → ℕ → Geometry → ℕ → Type 0) → P now.slot now.incarnation now.geometry now.front → P before.slot before.incarnation before.geometry before.front
migrated_as now before (inl same) P is = subst (λ (x : About). P x.slot x.incarnation x.geometry x.front) same is
migrated_as now before (inr moved) P is = subst (λ (x : About). P x.slot x.incarnation x.geometry x.front) moved is

-- ---- the members' disks stay

-- an incarnation counted from 1, and these sizes
abbrev IsOwn : Geometry → ℕ × Geometry → Type 0
IsOwn geometry owner = (0 < owner.0) × (owner.1 ≡ geometry)

pub disks_stay : {S : Type 0} (about : S → About) (old new : Seen S) → KeepOwn about old.chain new.chain → AreOnDisks about old → AreOnDisks about new
disks_stay about old new stays on =
    subst (λ g. All (λ m. IsOwn g (own_of about m)) new.chain.members) (sym stays.geometry)
    (of_mapped (IsOwn old.chain.geometry) (own_of about) new.chain.members (subst (All (IsOwn old.chain.geometry)) (sym stays.owners) (all_mapped (IsOwn old.chain.geometry) (own_of about) old.chain.members on)))

-- ---- a disk that was cut

-- it is its member's, with the sizes of the chain's volume
pub cut_of_member : (old : Seen IsStore) (v : View) (at : ℕ) (m : Linked IsStore) (disk : MemDisk) → Shows about_of_store keeps_volume leaves_now old v → slice_get old.chain.members at ≡ Some m
    → (kind : Cut) → IsCutFrom leaves_now disk_in kind m.node.store disk → AreOnDisks about_of_store old
    → (is : IsOfMember disk) × (is.meaning.geometry ≡ old.chain.geometry) × (is.meaning.slot ≡ (about_of_store m.node.store).slot) × (is.meaning.incarnation ≡ (about_of_store m.node.store).incarnation)
cut_of_member old v at m disk shows here kind cut on =
    let place = cell_of old.chain.members at m here in
    let twin = twin_of (IsShown about_of_store keeps_volume leaves_now (bytes_of old.chain)) place.above m place.below v.members
    (subst (λ l. AllZip (IsShown about_of_store keeps_volume leaves_now (bytes_of old.chain)) l v.members) place.split shows.chain.members) in
    let so = twin.fits in
    let (front, durable, known, is) = so.left (given_of disk) cut.left in
    let own = all_at (λ n. (0 < (about_of_store n.node.store).incarnation) × ((about_of_store n.node.store).geometry ≡ old.chain.geometry)) old.chain.members at m on here in
    (record { meaning = _; means = is; given = own.0; long = omega (arith, m.node.store.room, cut.left.size) }, own.1, refl, refl)

-- so is that of who joins, whose store keeps a volume
pub cut_of_joiner : (store : IsStore) (volume : List ℕ) (disk : MemDisk) → keeps_volume store volume → (kind : Cut) → IsCutFrom leaves_now disk_in kind store disk → 0 < (about_of_store store).incarnation
    → (is : IsOfMember disk) × (is.meaning.geometry ≡ (about_of_store store).geometry) × (is.meaning.slot ≡ (about_of_store store).slot) × (is.meaning.incarnation ≡ (about_of_store store).incarnation)
cut_of_joiner store volume disk kept kind cut given =
    (record { meaning = _; means = stored_means kept.stands kept (given_of disk) cut.left; given = given; long = omega (arith, store.room, cut.left.size) }, refl, refl, refl)

-- ---- why it may be refused

pub reopened : (bytes : List ℕ) (refusal : store.Refusal) → IsOfOpening refusal → (refusal ≡ stores.NotAVolume → IsNoVolume bytes ⊎ HasDamagedArea bytes) → (refusal ≡ stores.OtherVersion → IsOtherVersion bytes)
    → (refusal ≡ stores.Unfinished → IsUnfinished bytes) → IsOpenable bytes → IsOfReopening refusal
reopened bytes stores.Memory told none other unfinished openable = tt
reopened bytes stores.NotAVolume told none other unfinished openable = elim (none refl) [ inl is ↦ absurd (openable.volume is) | inr is ↦ absurd (openable.area is) ]
reopened bytes stores.OtherVersion told none other unfinished openable = absurd (openable.version (other refl))
reopened bytes stores.Unfinished told none other unfinished openable = absurd (openable.finished (unfinished refl))
reopened bytes (stores.Device error) told none other unfinished openable = tt
reopened bytes stores.Full told none other unfinished openable = absurd told
reopened bytes stores.Broken told none other unfinished openable = absurd told
reopened bytes stores.Backwards told none other unfinished openable = absurd told

-- a disk that can't fail any more refuses nothing
pub reopening_of_memory : (refusal : store.Refusal) → IsOfReopening refusal → IsNotOfDevice refusal → IsOfMemory (Store refusal)
reopening_of_memory stores.Memory told calm = tt
reopening_of_memory (stores.Device error) told calm = calm
reopening_of_memory stores.Full told calm = absurd told
reopening_of_memory stores.Broken told calm = absurd told
reopening_of_memory stores.NotAVolume told calm = absurd told
reopening_of_memory stores.OtherVersion told calm = absurd told
reopening_of_memory stores.Unfinished told calm = absurd told
reopening_of_memory stores.Backwards told calm = absurd told

module _ {S : Type 0} (premise : Type 0) (about : S → About) (keeps : S → List ℕ → Type 0) (is_pending : S → ℕ → Type 0) (may_leave_now : S → List ℕ → Type 0) (moment : S → ℕ)
    (left_since : S → ℕ → List ℕ → Type 0) (failures : S → ℕ) (disk : S → MemDisk) where
  abbrev Lives : Geometry → ℕ → List Era → List Answers → Managed S → Type 0
  Lives = IsOneLife premise about keeps is_pending may_leave_now moment left_since failures disk

  abbrev Ends : Era → Managed S → Refusal → Type 0
  Ends = EndsAtReturn premise about keeps is_pending may_leave_now moment left_since failures disk

  -- an era breaks off the life
  pub breaks_off : (refusal : Refusal) (geometry : Geometry) (members : ℕ) (eras lived : List Era) (era : Era) (rest : List Era) (answers : List Answers) (w : Managed S) → eras ≡ lived ++ era ∷ rest
      → Lives geometry members lived answers w → Ends era w refusal → BreaksOff premise about keeps is_pending may_leave_now moment left_since failures disk geometry members eras refusal
  breaks_off refusal geometry members eras lived era rest answers w are life ends = inr (record { lived = lived; era = era; rest = rest; are = are; answers = answers; world = w; life = life; ends = ends })
