-- What is asked of a file of the system.
use Rattle.std.specs.Prelude.{◌≡◌, ◌⊎◌, ℕ, ◌+◌, Bool, true, false, List, [], ◌∷◌, ◌++◌, replicate}

-- what is asked, and whether it is done: so many bytes are read from a place on, these are written there, the data is made
-- durable, or all of the file, its lock is taken
pub data Call : Type 0 where
  reads : ℕ → ℕ → Bool → Call
  writes : ℕ → List ℕ → Bool → Call
  syncs_data : Bool → Call
  syncs_all : Bool → Call
  locks : Bool → Call

-- zeros are written, one behind the other, from this place on up to that one
abbrev pub AreZeros : ℕ → ℕ → List Call → Type 0
AreZeros from to [] = from ≡ to
AreZeros from to (call ∷ calls) = (n : ℕ) × (call ≡ writes from (replicate n 0) true) × AreZeros (from + n) to calls

-- more zeros behind what was asked before
abbrev pub IsZeroed : ℕ → ℕ → List Call → List Call → Type 0
IsZeroed from to old new = (zeros : List Call) × AreZeros from to zeros × (new ≡ old ++ zeros)

-- nothing that was asked before is lost
abbrev pub GoesOn : List Call → List Call → Type 0
GoesOn old new = (calls : List Call) × (new ≡ old ++ calls)

-- the lock is asked for first, and nothing more where it isn't given
abbrev pub IsLockedFirst : List Call → List Call → Type 0
IsLockedFirst old new = (new ≡ old ++ locks false ∷ []) ⊎ GoesOn (old ++ locks true ∷ []) new

-- a file is filled up to this length: its lock is taken, zeros are written, and all of it is made durable
abbrev pub IsFilled : ℕ → List Call → List Call → Type 0
IsFilled len old new = (then : List Call) × IsZeroed 0 len (old ++ locks true ∷ []) then × (new ≡ then ++ syncs_all true ∷ [])
