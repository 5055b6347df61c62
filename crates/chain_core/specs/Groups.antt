-- How many blocks writes touch, and what their images take.
use Rattle.std.specs.Prelude.{◌≡◌, ℕ, ◌+◌, ◌*◌, ◌<◌, ◌≤◌, false, true, List, length}
use Rattle.std.specs.BTreeSet.{BTreeSet, IsOrdered, contains}
use Rattle.std.specs.List.{list_any}
use Rattle.std.specs.Ordering.{nat_cmp}
use Rattle.gate_journal.specs.Batch.{AreImages, images_size}
use Rattle.gate_journal.specs.Image.{Image, is_zeros}
use Rattle.local_store.specs.About.{About, HasNoRoom, HasRoom}
use Rattle.version_table.specs.Held.{Held, writes_upto}
use Rattle.volume.specs.Writes.{Placed, touches}
use Rattle.chain_steps.specs.Node.{Commit}
use Rattle.chain_steps.specs.Steps.{group_size, is_written}

-- these are the blocks that the writes touch
abbrev pub AreTouched : BTreeSet ℕ → List Placed → Type 0
AreTouched blocks writes = (b : ℕ) → contains nat_cmp blocks b ≡ list_any (touches b) writes

-- and these are the blocks to which they do more than make the whole block zeros
abbrev pub AreWritten : BTreeSet ℕ → List Placed → Type 0
AreWritten blocks writes = (b : ℕ) → contains nat_cmp blocks b ≡ is_written writes b

-- the blocks that the writes touch, and those to which they do more than make the whole block zeros
pub record AreCounted (touched written : BTreeSet ℕ) (writes : List Placed) : Type 0 where
  pub are_touched : AreTouched touched writes
  pub are_written : AreWritten written writes
  pub touched_ordered : IsOrdered nat_cmp touched
  pub written_ordered : IsOrdered nat_cmp written

-- the bytes that the images of so many blocks may take in a batch
abbrev pub set_size : BTreeSet ℕ → BTreeSet ℕ → ℕ
set_size touched written = 4 * length touched.keys + 4096 * length written.keys

-- the images of the writes take at most so many bytes in a batch
pub record TakeAtMost (left : ℕ) (writes : List Placed) : Type 0 where
  pub touched : BTreeSet ℕ
  pub written : BTreeSet ℕ
  pub counted : AreCounted touched written writes
  pub few : set_size touched written ≤ left

-- and may take more than so many
pub record MayTakeMore (left : ℕ) (writes : List Placed) : Type 0 where
  pub touched : BTreeSet ℕ
  pub written : BTreeSet ℕ
  pub counted : AreCounted touched written writes
  pub many : left < set_size touched written

-- these are the blocks that the writes touch, ascending
pub record IsTouchedList (writes : List Placed) (items : List ℕ) : Type 0 where
  pub blocks : BTreeSet ℕ
  pub keys_are : items ≡ blocks.keys
  pub are : AreTouched blocks writes
  pub ordered : IsOrdered nat_cmp blocks

-- an image of a block that the writes only make zeros is of zeros
abbrev pub IsBlank : List Placed → Image → Type 0
IsBlank writes image = list_any (touches image.block) writes ≡ true → is_written writes image.block ≡ false → is_zeros image.bytes ≡ true

-- the area has no room for what the images of these writes may take
pub record IsTooMuch (about : About) (writes : List Placed) : Type 0 where
  pub left : ℕ
  pub too_much : (size : ℕ) → left < size → HasNoRoom about size
  pub more : MayTakeMore left writes

-- a commit of writes above the forgotten front, up to the limit, that fits into the area; with one write more it wouldn't
pub record IsGroupUpTo (about : About) (table : Held) (limit : ℕ) (commit : Commit) : Type 0 where
  pub above : table.forgotten < commit.front
  pub upto : commit.front ≤ limit
  pub images : AreImages about.geometry.blocks commit.images
  pub fits : HasRoom about (group_size (writes_upto table commit.front) commit.images)
  pub room : HasRoom about (images_size commit.images)
  pub greatest : commit.front < limit → IsTooMuch about (writes_upto table (commit.front + 1))
