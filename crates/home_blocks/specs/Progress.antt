-- How far a disk is installed.
use Rattle.std.specs.Prelude.{ℕ}
use Rattle.home_blocks.specs.declared.progress.Progress.{Progress}
use Rattle.home_blocks.specs.declared.progress.Progress.TheVariants.{Installing, Whole}

-- its number
abbrev pub progress_number : Progress → ℕ
progress_number Installing = 0
progress_number Whole = 1
