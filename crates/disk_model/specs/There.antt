-- What a stopped disk holds.
use Rattle.std.specs.Prelude.{ℕ, List, Option, Some, None, Vec}
use Rattle.std.specs.declared.alloc.Global.{Global}

-- what it stopped with, or else these bytes
abbrev pub there_or : Option (Vec ℕ Global) → List ℕ → List ℕ
there_or None bytes = bytes
there_or (Some there) bytes = there.items
