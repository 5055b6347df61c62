-- What a store knows of a disk that it opens.
use Rattle.std.proofs.Common.{◌≡◌, ℕ, ◌<◌, ◌≤◌, max, false, List, [], ◌∷◌, length, replicate, refl, sym, ◌∙◌, ap, subst, arith}
use Rattle.std.specs.Prelude.{All, Option, None}
use Rattle.std.proofs.lemmas.List.{length-replicate}
use Rattle.block_cache.specs.Cache.{Blocks}
use Rattle.disk_model.specs.Part.{inside}
use Rattle.disk_model.specs.declared.part.Part.{Part}
use Rattle.gate_journal.specs.Batch.{Batch, AreBatches, IsDamaged, last_front}
use Rattle.gate_journal.specs.Journal as journal
use Rattle.gate_journal.specs.Image.{Image}
use Rattle.gate_journal.specs.declared.batch.TheConstants.{MAX_NUMBER}
use Rattle.home_blocks.specs.Home as home
use Rattle.home_blocks.specs.Places.{IsAreaPart, area_bytes, inside-area}
use Rattle.home_blocks.specs.Superblock.{Superblock}
use Rattle.home_blocks.specs.declared.area.Area.{Area}
use Rattle.local_store.specs.Pending.{with_all_pending, with_pending}
use Rattle.local_store.specs.Store.{IsOfSuperblock, IsSound}
use Rattle.local_store.proofs.Homes.{length-with_pending}
use Rattle.local_store.proofs.Stored.{all_fit}
use Rattle.volume.specs.declared.geometry.Geometry.{Geometry}

length-all : (pending : List (Option (List ℕ))) (batches : List Batch) → length (with_all_pending pending batches) ≡ length pending
length-all pending [] = refl
length-all pending (batch ∷ batches) = length-all (with_pending pending batch.images) batches ∙ length-with_pending pending batch.images

-- what was read of the superblock, piece by piece
pub record IsReadOf (h : home.State) (sb : Superblock) (g : Geometry) (current : Area) (slot front : ℕ) : Type 0 where
  pub superblock : sb ≡ h.superblock
  pub geometry : g ≡ sb.geometry
  pub area : current ≡ sb.current
  pub slot_is : slot ≡ sb.slot
  pub front_is : front ≡ sb.front

module _ {h : home.State} {sb : Superblock} {g : Geometry} {current : Area} {slot front : ℕ} (read : IsReadOf h sb g current slot front) where
  geometry_is : g ≡ h.superblock.geometry
  geometry_is = read.geometry ∙ ap (λ (s : Superblock). s.geometry) read.superblock

  current_is : current ≡ h.superblock.current
  current_is = read.area ∙ ap (λ (s : Superblock). s.current) read.superblock

  last_is : front ≡ h.superblock.front
  last_is = read.front_is ∙ ap (λ (s : Superblock). s.front) read.superblock

  pub damaged_area : (part : Part) (gives : List ℕ) → IsAreaPart g current part → IsDamaged g.blocks front (inside part gives) → IsDamaged h.superblock.geometry.blocks h.superblock.front (area_bytes h.superblock.geometry h.superblock.current gives)
  damaged_area part gives is damaged =
      subst (λ (k : Geometry). IsDamaged k.blocks h.superblock.front (area_bytes k h.superblock.current gives)) geometry_is
      (subst (λ (a : Area). IsDamaged g.blocks h.superblock.front (area_bytes g a gives)) current_is
      (subst (λ (n : ℕ). IsDamaged g.blocks n (area_bytes g current gives)) last_is (subst (IsDamaged g.blocks front) (inside-area g current part gives is) damaged)))

  pub sound_opened : (part : Part) (j : journal.State) (pending : List (Option (List ℕ))) (cache : Blocks) (batches : List Batch) → IsAreaPart g current part
      → j ≡ record { part = part; slot = slot; blocks = g.blocks; before = front; front = last_front front batches; end = j.end; broken = false } → front ≤ MAX_NUMBER → j.front ≤ max front MAX_NUMBER
      → pending ≡ with_all_pending (replicate g.blocks None) batches → h.pair.broken ≡ false → IsSound (record { home = h; journal = j; pending = pending; cache = cache; broken = false })
  sound_opened part j pending cache batches is same limit upto filled runs = record {
    journal = record {
      part = subst (λ (p : Part). IsAreaPart h.superblock.geometry h.superblock.current p) (sym (ap (λ (s : journal.State). s.part) same))
          (subst (λ (k : Geometry). IsAreaPart k h.superblock.current part) geometry_is (subst (λ (a : Area). IsAreaPart g a part) current_is is));
      slot = ap (λ (s : journal.State). s.slot) same ∙ read.slot_is ∙ ap (λ (s : Superblock). s.slot) read.superblock;
      blocks = ap (λ (s : journal.State). s.blocks) same ∙ ap (λ (k : Geometry). k.blocks) geometry_is;
      before = ap (λ (s : journal.State). s.before) same ∙ last_is;
    };
    table = ap (λ (p : List (Option (List ℕ))). length p) filled ∙ length-all (replicate g.blocks None) batches ∙ length-replicate {A = Option (List ℕ)} g.blocks None ∙ ap (λ (k : Geometry). k.blocks) geometry_is;
    front = omega (arith, limit, upto);
    runs = λ still. (ap (λ (s : journal.State). s.broken) same_as, runs);
  }
    where
      same_as : j ≡ record { part = part; slot = slot; blocks = g.blocks; before = front; front = last_front front batches; end = j.end; broken = false }
      same_as = same

pub images_within : (blocks before : ℕ) (batches items : List Batch) → items ≡ batches → AreBatches blocks before batches → All (λ batch. All (λ image. image.block < blocks) batch.images) items
images_within blocks before batches items same are =
    subst (All (λ (batch : Batch). All (λ (image : Image). image.block < blocks) batch.images)) (sym same) (λ k d lt i e lti. (all_fit blocks before batches are k d lt i e lti).0)

-- a journal that was created in the first area, and a superblock that says so
pub of_created : (h : home.State) (j : journal.State) (pending : List (Option (List ℕ))) (cache : Blocks) (sb : Superblock) (part : Part) → h.superblock ≡ sb
    → j ≡ record { part = part; slot = sb.slot; blocks = sb.geometry.blocks; before = sb.front; front = sb.front; end = 0; broken = false } → IsAreaPart sb.geometry sb.current part
    → IsOfSuperblock (record { home = h; journal = j; pending = pending; cache = cache; broken = false })
of_created h j pending cache sb part is same area = record {
  part = subst (λ (s : Superblock). IsAreaPart s.geometry s.current j.part) (sym is) (subst (IsAreaPart sb.geometry sb.current) (sym (ap (λ (s : journal.State). s.part) same)) area);
  slot = ap (λ (s : journal.State). s.slot) same ∙ sym (ap (λ (s : Superblock). s.slot) is);
  blocks = ap (λ (s : journal.State). s.blocks) same ∙ sym (ap (λ (s : Superblock). s.geometry.blocks) is);
  before = ap (λ (s : journal.State). s.before) same ∙ sym (ap (λ (s : Superblock). s.front) is);
}
