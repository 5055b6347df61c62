-- How many pending blocks are owed.
use Rattle.std.specs.Prelude.{ℕ, ◌+◌, ◌-◌, ◌*◌, ◌/◌, ◌==◌, if◌then◌else◌, min, nat_lt}

-- behind a commit that took its images from so many bytes that were left: two a record of an image, once half of the area is full, and at
-- most two a block of the greatest volume
abbrev pub behind_commit : (before left area owed : ℕ) → ℕ
behind_commit before left area owed = if nat_lt left (area / 2) then min (owed + 2 * min ((before - left) / 4100) 65536) 131072 else owed

-- behind so many that went home; none is owed where none did
abbrev pub behind_run : (homes owed : ℕ) → ℕ
behind_run homes owed = if homes == 0 then 0 else owed - homes
