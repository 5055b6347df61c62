-- What is in a journal area and not yet home.
use Rattle.std.specs.Prelude.{◌≡◌, ℕ, ◌+◌, ◌*◌, ◌<◌, true, Option, Some, None, List, length, fold, set, count_by, is_some, slice_index_or}
use Rattle.flusher.specs.Plan.{IsWithin}
use Rattle.gate_journal.specs.Batch.{Batch}
use Rattle.gate_journal.specs.Image.{Image}
use Rattle.local_store.specs.Overlay.{with_batches, is_covered, AllFitIn}
use Rattle.volume.specs.Writes.{block_of}

-- the pending image of a block, if there is one
abbrev pub held : List (Option (List ℕ)) → ℕ → Option (List ℕ)
held pending block = slice_index_or pending block None

-- how many images are pending
abbrev pub count_pending : List (Option (List ℕ)) → ℕ
count_pending pending = count_by is_some pending

-- with these images pending
abbrev pub with_pending : List (Option (List ℕ)) → List Image → List (Option (List ℕ))
with_pending pending images = fold (λ p image. set p image.block (Some image.bytes)) pending images

-- with the images of these batches pending
abbrev pub with_all_pending : List (Option (List ℕ)) → List Batch → List (Option (List ℕ))
with_all_pending pending batches = fold (λ p batch. with_pending p batch.images) pending batches

-- Each block of the volume is pending, or it is home; what is pending is also on disk elsewhere.
pub record AreHomeOrPending (blocks : ℕ) (IsElsewhere : ℕ → Type 0) (volume : List ℕ) (pending : List (Option (List ℕ))) (home : List ℕ) : Type 0 where
  pub table : length pending ≡ blocks
  pub size : length volume ≡ 4096 * blocks
  pub as_long : length home ≡ 4096 * blocks
  pub is_home : (b : ℕ) → b < blocks → held pending b ≡ None → block_of home b ≡ block_of volume b
  pub image : (b : ℕ) (bytes : List ℕ) → held pending b ≡ Some bytes → bytes ≡ block_of volume b
  pub elsewhere : (b : ℕ) (bytes : List ℕ) → held pending b ≡ Some bytes → IsElsewhere b

-- the home region is the volume under these batches, whatever a stop leaves of it; and what is pending is in the batches
pub record IsHome (blocks : ℕ) (volume : List ℕ) (batches : List Batch) (pending : List (Option (List ℕ))) (home : List ℕ) (may_leave : List ℕ → Type 0) : Type 0 where
  pub waits : AreHomeOrPending blocks (λ b. is_covered b batches ≡ true) volume pending home
  pub fit : AllFitIn blocks batches
  pub long : (x : List ℕ) → may_leave x → length x ≡ 4096 * blocks
  pub left : (x : List ℕ) → may_leave x → with_batches x batches ≡ volume

-- the bytes are the pending images of so many blocks from the first one on, one behind the other
pub record AreJoined (pending : List (Option (List ℕ))) (first count : ℕ) (bytes : List ℕ) : Type 0 where
  pub size : length bytes ≡ 4096 * count
  pub images : (i : ℕ) → i < count → held pending (first + i) ≡ Some (block_of bytes i)

-- the places of so many blocks from the first one on are empty, and each other is as it was
pub record AreCleared {T : Type 0} (first count : ℕ) (old new : List (Option T)) : Type 0 where
  pub table : length new ≡ length old
  pub run : (b : ℕ) → IsWithin first count b → slice_index_or new b None ≡ None
  pub others : (b : ℕ) → (¬ IsWithin first count b) → slice_index_or new b None ≡ slice_index_or old b None
