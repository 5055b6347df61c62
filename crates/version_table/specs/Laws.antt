-- What holds of every table.
use Rattle.std.specs.Prelude.{◌≡◌, ℕ, ◌≤◌, List, map, take, drop, fold}
use Rattle.volume.specs.Writes.{Placed, patched, volume_of}
use Rattle.version_table.specs.Held.{Held, writes_upto}

-- where the kept writes follow the forgotten ones, the volume after j writes is the one at the forgotten front, patched by the kept ones up to j
abbrev pub KeptWritesGoOn : Type 0
KeptWritesGoOn = (size j : ℕ) (ws : List Placed) (t : Held) → map (λ k. k.write) t.kept ≡ drop t.forgotten ws → t.forgotten ≤ j
    → volume_of size (take j ws) ≡ fold patched (volume_of size (take t.forgotten ws)) (writes_upto t j)
