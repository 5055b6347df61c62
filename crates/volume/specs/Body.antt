-- What a write puts in its place: bytes, or zeros, of which no byte is kept.
use Rattle.std.specs.Prelude.{◌≡◌, ℕ, ◌==◌, false, Bool, if◌then◌else◌, List, length, replicate, ⊤}
use Rattle.std.specs.List.{list_all}
use Rattle.volume.specs.Writes.{Placed}
use Rattle.volume.specs.declared.write.Body.{Body}
use Rattle.volume.specs.declared.write.Body.TheVariants.{Given, Zeros}

-- whether all of these bytes are zero
abbrev pub is_zeros : List ℕ → Bool
is_zeros bytes = list_all (λ byte. byte == 0) bytes

-- what it comes to
abbrev pub bytes_of : Body → List ℕ
bytes_of (Given payload) = payload
bytes_of (Zeros len) = replicate len 0

-- zeros alone aren't kept
abbrev pub IsBody : Body → Type 0
IsBody (Given payload) = is_zeros payload ≡ false
IsBody (Zeros len) = ⊤

-- how many bytes of a write are kept: none of zeros alone
abbrev pub kept_of : Placed → ℕ
kept_of w = if is_zeros w.bytes then 0 else length w.bytes
