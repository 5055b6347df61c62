-- Which pending block is the next one.
use Rattle.std.specs.Prelude.{◌≡◌, ◌⊎◌, ℕ, ◌+◌, ◌<◌, ◌≤◌, Option, Some, None, List, slice_index_or, IsSome}

-- the block is pending: something stands at its place
abbrev pub IsPending : {T : Type 0} → List (Option T) → ℕ → Type 0
IsPending pending block = IsSome (slice_index_or pending block None)

-- no block is
abbrev pub NonePending : (ℕ → Type 0) → Type 0
NonePending is_pending = (block : ℕ) → is_pending block → ⊥

-- the least of these blocks
pub record IsLeast (among : ℕ → Type 0) (block : ℕ) : Type 0 where
  pub is : among block
  pub least : (other : ℕ) → among other → block ≤ other

-- a pending block from this one on
pub record IsFrom (first : ℕ) (is_pending : ℕ → Type 0) (block : ℕ) : Type 0 where
  pub from : first ≤ block
  pub pending : is_pending block

-- the place behind the last one given
abbrev pub behind : Option ℕ → ℕ
behind None = 0
behind (Some last) = last + 1

-- the next block: the least pending one behind the last one given, and where none is there, the least of all
abbrev pub IsNext : Option ℕ → (ℕ → Type 0) → ℕ → Type 0
IsNext last is_pending block = IsLeast (IsFrom (behind last) is_pending) block ⊎ (NonePending (IsFrom (behind last) is_pending) × IsLeast (IsFrom 0 is_pending) block)

-- the block is one of so many from the first one on
abbrev pub IsWithin : ℕ → ℕ → ℕ → Type 0
IsWithin first count block = (first ≤ block) × (block < first + count)

-- A run of pending blocks, at least one and `most` at most. It is the longest: it has `most`, or the block behind it isn't
-- pending.
pub record IsRun (most : ℕ) (is_pending : ℕ → Type 0) (first count : ℕ) : Type 0 where
  pub whole : (block : ℕ) → IsWithin first count block → is_pending block
  pub some : 1 ≤ count
  pub few : count ≤ most
  pub longest : (count ≡ most) ⊎ (¬ is_pending (first + count))
