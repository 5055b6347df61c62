-- The names of a folder's files, and their paths.
use Rattle.std.specs.Prelude.{ℕ, ◌+◌, List, ◌∷◌, ◌++◌, codes}
use Rattle.folder.specs.declared.names.FileName.{FileName}
use Rattle.folder.specs.declared.names.FileName.TheVariants.{Config, Slot}

-- a file's name: config.disk, or slotN.disk with the slot's digit, whose code is 48 and the slot
abbrev pub name_of : FileName → List ℕ
name_of Config = codes "config.disk"
name_of (Slot slot) = codes "slot" ++ (48 + slot) ∷ codes ".disk"

-- its path in a folder
abbrev pub path_of : List ℕ → FileName → List ℕ
path_of dir file = dir ++ codes "/" ++ name_of file
