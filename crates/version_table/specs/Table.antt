-- What is true of the fields of a table.
use Rattle.std.specs.Prelude.{◌≡◌, ℕ, ◌+◌, ◌-◌, ◌*◌, ◌^◌, ◌<◌, ◌≤◌, length, slice_index_or, All, List}
use Rattle.std.specs.BTreeSet.{BTreeSet}
use Rattle.volume.specs.Writes.{Fits, IsTouched}
use Rattle.version_table.specs.Held.{data_of, IsNumbered}
use Rattle.version_table.specs.Marks.{IsMarked}
use Rattle.version_table.specs.declared.kept.Kept.{Kept}
use Rattle.version_table.specs.declared.table.Table.TheInside.{Inside}

-- a block and a number are marked exactly where that kept write touches that block
pub record IsIndexed (front : ℕ) (kept : List Kept) (marks : BTreeSet (ℕ × ℕ)) : Type 0 where
  pub above : (block n : ℕ) → IsMarked marks block n → front < n
  pub upto : (block n : ℕ) → IsMarked marks block n → n ≤ front + length kept
  pub touches : (block n : ℕ) (d : Kept) → IsMarked marks block n → IsTouched (slice_index_or kept (n - front - 1) d).write block
  pub marked : (block i : ℕ) (d : Kept) → i < length kept → IsTouched (slice_index_or kept i d).write block → IsMarked marks block (front + i + 1)

-- the fields fit one another and the limits
pub record AreStored (front : ℕ) (kept : List Kept) (stored : ℕ) (marks : BTreeSet (ℕ × ℕ)) : Type 0 where
  pub numbers : front + length kept < 2 ^ 64
  pub numbered : IsNumbered (record { forgotten = front; kept = kept })
  pub few : length kept ≤ 1024
  pub small : stored ≤ 16777216
  pub counted : stored ≡ data_of kept
  pub inside : All (λ k. Fits (4096 * 65536) k.write) kept
  pub indexed : IsIndexed front kept marks

abbrev pub IsTable : Inside → Type 0
IsTable t = AreStored t.front t.kept.items t.«data» t.marks
