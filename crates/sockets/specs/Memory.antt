-- What contracts see of a client in memory.
use Rattle.std.specs.Prelude.{◌≡◌, ◌≤◌, ◌<◌, ◌⊎◌, ℕ, List, All, Contains, drop, length, take}
use Rattle.sockets.specs.declared.kept.Kept.{Kept}
use Rattle.sockets.specs.declared.pieces.Pieces.{Pieces}

-- all bytes that it took, in order
abbrev pub kept_by : Kept → List ℕ
kept_by it = it.bytes.items

-- all bytes of its pieces, in order
abbrev pub all_of : Pieces → List ℕ
all_of it = it.bytes.items

-- those that it gave
abbrev pub given_of : Pieces → List ℕ
given_of it = take it.count it.bytes.items

-- those that it is still to give
abbrev pub left_of : Pieces → List ℕ
left_of it = drop it.count it.bytes.items

-- behind how many bytes each of its pieces begins
abbrev pub starts_of : Pieces → List ℕ
starts_of it = it.starts.items

-- no piece begins amid what it gave in between
abbrev pub IsOfOnePiece : Pieces → Pieces → Type 0
IsOfOnePiece old new = All (λ start. old.count < start → new.count ≤ start) old.starts.items

-- what it gave ends with a piece
abbrev pub EndsPiece : Pieces → Type 0
EndsPiece it = (it.count ≡ length it.bytes.items) ⊎ Contains it.starts.items it.count
