-- The versions of a disk's encoding.
use Rattle.std.specs.Prelude.{ℕ}
use Rattle.home_blocks.specs.declared.version.Version.{Version}
use Rattle.home_blocks.specs.declared.version.Version.TheVariants.{One, Two}

-- its number
abbrev pub version_number : Version → ℕ
version_number One = 1
version_number Two = 2
