-- The limits of a volume.
use Rattle.std.specs.Prelude.{ℕ, ◌+◌, ◌*◌, ◌/◌, ◌≤◌, IsTrue}
use Rattle.std.specs.Int.{is_power_of_two}

-- a number of blocks that a volume can have
abbrev pub AreBlocks : ℕ → Type 0
AreBlocks blocks = (1 ≤ blocks) × (blocks ≤ 65536)

-- a bound on payloads: a power of two from 4,096 to 1,048,576
abbrev pub IsPayload : ℕ → Type 0
IsPayload max_payload = (4096 ≤ max_payload) × (max_payload ≤ 1048576) × IsTrue (is_power_of_two max_payload)

-- one batch with an image of each block that such a payload can touch, and a closed gate
abbrev pub least_area_of : ℕ → ℕ
least_area_of max_payload = 14 + 4100 * (max_payload / 4096 + 1)
