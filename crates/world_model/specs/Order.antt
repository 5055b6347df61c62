-- Writes in order: their numbers, the volume after them, and which of them a member has applied.
use Rattle.std.specs.Prelude.{◌≡◌, ℕ, ◌+◌, ⊤, List, [], ◌∷◌, ◌++◌, length, map}
use Rattle.version_table.specs.Held.{Held}
use Rattle.version_table.specs.declared.kept.Kept.{Kept}
use Rattle.volume.specs.Writes.{volume_of}

-- the writes have the numbers from this one on, one by one
abbrev pub AreNumberedFrom : ℕ → List Kept → Type 0
AreNumberedFrom n [] = ⊤
AreNumberedFrom n (k ∷ ks) = (k.number ≡ n) × AreNumberedFrom (n + 1) ks

-- the volume of so many bytes after these writes
abbrev pub volume_after : ℕ → List Kept → List ℕ
volume_after size ks = volume_of size (map (λ k. k.write) ks)

-- the member has applied exactly these writes: the first of them are durable, in its volume
pub record HasApplied (size : ℕ) (own : List Kept) (volume : List ℕ) (table : Held) : Type 0 where
  pub done : List Kept
  pub own_is : done ++ table.kept ≡ own
  pub durable : length done ≡ table.forgotten
  pub volume_is : volume ≡ volume_after size done
