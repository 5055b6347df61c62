-- The mask of counted slots: slot s is counted where bit s is set.
use Rattle.std.specs.Prelude.{ℕ, ◌-◌, ◌^◌, ◌==◌, Bool, List, [], ◌∷◌, ◌++◌, if◌then◌else◌, zero, suc, bit_and}
use Rattle.std.specs.Int.{bit_at}
use Rattle.std.specs.Int.RustNames.{bit_or}

-- the mask counts this slot
unfoldable pub counts : ℕ → ℕ → Bool
counts mask slot = bit_at mask slot == 1

-- the mask, with this slot counted
unfoldable pub with_slot : ℕ → ℕ → ℕ
with_slot mask slot = bit_or mask (2 ^ slot)

-- the mask, with this slot no longer counted
unfoldable pub without_slot : ℕ → ℕ → ℕ
without_slot mask slot = bit_and mask (255 - 2 ^ slot)

-- the slots below n that the mask counts, ascending
unfoldable pub slots_below : ℕ → ℕ → List ℕ
slots_below mask zero = []
slots_below mask (suc n) = slots_below mask n ++ (if counts mask n then n ∷ [] else [])

-- the slots that the mask counts, ascending
abbrev pub slots_of : ℕ → List ℕ
slots_of mask = slots_below mask 8
