-- The two journal areas of a disk.
use Rattle.std.specs.Prelude.{ℕ}
use Rattle.home_blocks.specs.declared.area.Area.{Area}
use Rattle.home_blocks.specs.declared.area.Area.TheVariants.{First, Second}

-- its number
abbrev pub area_number : Area → ℕ
area_number First = 0
area_number Second = 1

-- the one that isn't this one
abbrev pub other_area : Area → Area
other_area First = Second
other_area Second = First
