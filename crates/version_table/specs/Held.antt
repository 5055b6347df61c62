-- What a table holds, and the blocks of the volume after its writes.
use Rattle.std.specs.Prelude.{◌≡◌, ℕ, ◌+◌, ◌-◌, ◌<◌, ◌≤◌, ◌⊎◌, List, [], ◌∷◌, ◌++◌, length, map, take, drop, sum_by, slice_index_or, All}
use Rattle.volume.specs.Body.{kept_of}
use Rattle.volume.specs.Writes.{Placed, IsTouched}
use Rattle.version_table.specs.Marks.{ReachesBlock}
use Rattle.version_table.specs.declared.kept.Kept.{Kept}
use Rattle.version_table.specs.declared.kept.Origin.{Origin}

-- the writes up to a number are forgotten, and those after it are kept, in order
pub record Held : Type 0 where
  pub forgotten : ℕ
  pub kept : List Kept

-- the number of the last write
abbrev pub applied_of : Held → ℕ
applied_of t = t.forgotten + length t.kept

-- the bytes of the kept writes, those of zeros alone not counted
abbrev pub data_of : List Kept → ℕ
data_of kept = sum_by (λ k. kept_of k.write) kept

-- one more write, with its number
abbrev pub with_write : Held → ℕ → Placed → Origin → Held
with_write t n w from = record t { kept = t.kept ++ (record { number = n; write = w; origin = from }) ∷ [] }

-- the writes up to a number are forgotten too
abbrev pub forgotten_to : Held → ℕ → Held
forgotten_to t d = record { forgotten = d; kept = drop (d - t.forgotten) t.kept }

-- the kept writes above a number
abbrev pub kept_after : Held → ℕ → List Kept
kept_after t n = drop (n - t.forgotten) t.kept

-- what the kept writes up to a number write
abbrev pub writes_upto : Held → ℕ → List Placed
writes_upto t j = map (λ k. k.write) (take (j - t.forgotten) t.kept)

-- one more write is above a limit
abbrev pub IsFullFor : Held → Placed → Type 0
IsFullFor t w = (1024 ≤ length t.kept) ⊎ (16777216 < data_of t.kept + kept_of w)

-- no write above the number touches a block of the range
abbrev pub IsClean : Held → ℕ → ℕ → ℕ → Type 0
IsClean t offset len n = (block : ℕ) → ReachesBlock offset len block → All (λ k. ¬ IsTouched k.write block) (kept_after t n)

-- the numbers of the kept writes follow the forgotten front, one by one
abbrev pub IsNumbered : Held → Type 0
IsNumbered t = (i : ℕ) (d : Kept) → i < length t.kept → (slice_index_or t.kept i d).number ≡ t.forgotten + i + 1
