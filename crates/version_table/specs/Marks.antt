-- Marks, each a block and the number of a write that touches it.
use Rattle.std.specs.Prelude.{◌≡◌, ℕ, ◌+◌, ◌*◌, ◌<◌, Bool, ◌&&◌, ◌==◌, nat_lt, nat_le, IsTrue, if◌then◌else◌}
use Rattle.std.specs.declared.cmp.Ordering.{Ordering}
use Rattle.std.specs.Ordering.{nat_cmp, ordering_then}
use Rattle.std.specs.BTreeSet.{BTreeSet, contains}

-- some byte of the range lies in the block
abbrev pub ReachesBlock : ℕ → ℕ → ℕ → Type 0
ReachesBlock offset len block = (offset < 4096 * block + 4096) × (4096 * block < offset + len) × (0 < len)

-- marks ascend by the block, and those of a block by the number
abbrev pub mark_cmp : ℕ × ℕ → ℕ × ℕ → Ordering
mark_cmp x y = ordering_then (nat_cmp x.0 y.0) (nat_cmp x.1 y.1)

abbrev pub is_marked : BTreeSet (ℕ × ℕ) → ℕ → ℕ → Bool
is_marked marks block number = contains mark_cmp marks (block, number)

abbrev pub IsMarked : BTreeSet (ℕ × ℕ) → ℕ → ℕ → Type 0
IsMarked marks block number = IsTrue (is_marked marks block number)

-- whether a mark is one of a write's, which touches the blocks first .. past
abbrev pub is_among : ℕ → ℕ → ℕ → ℕ → ℕ → Bool
is_among first past number block m = (m == number) && (nat_le first block && nat_lt block past)

-- these marks of a write are there or not, as said, and the others as before
abbrev pub AreSet : BTreeSet (ℕ × ℕ) → BTreeSet (ℕ × ℕ) → ℕ → ℕ → ℕ → Bool → Type 0
AreSet old new first past number there = (block m : ℕ) → is_marked new block m ≡ (if is_among first past number block m then there else is_marked old block m)

-- no mark came or went
abbrev pub AreSame : BTreeSet (ℕ × ℕ) → BTreeSet (ℕ × ℕ) → Type 0
AreSame old new = (block m : ℕ) → is_marked new block m ≡ is_marked old block m
