-- What contracts see of a cache, and when it agrees with a home region.
use Rattle.std.specs.Prelude.{◌≡◌, ℕ, List, [], Contains}
use Rattle.volume.specs.Writes.{block_of}
use Rattle.lru.proofs.Splits.{Contains-nil}

-- blocks with their bytes, the last used first
abbrev pub Blocks : Type 0
Blocks = List (ℕ × List ℕ)

-- the cache keeps these bytes of a block
abbrev pub Keeps : Blocks → ℕ → List ℕ → Type 0
Keeps cache block bytes = Contains cache (block, bytes)

-- it keeps some
abbrev pub IsCached : Blocks → ℕ → Type 0
IsCached cache block = (bytes : List ℕ) × Keeps cache block bytes

-- what it keeps of a block is what the home region has there
abbrev pub Agrees : Blocks → List ℕ → Type 0
Agrees cache home = (block : ℕ) (bytes : List ℕ) → Keeps cache block bytes → bytes ≡ block_of home block

-- a cache that keeps nothing does: a lemma for the crates above
pub agrees_empty : (home : List ℕ) → Agrees [] home
agrees_empty home = λ block bytes has. absurd (Contains-nil (block, bytes) has)
