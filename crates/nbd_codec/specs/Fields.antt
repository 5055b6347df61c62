-- Fields read from left to right. A field is a value and the bytes after it, or why there is none.
use Rattle.std.specs.Prelude.{◌≡◌, ℕ, Bool, min, List, length, take, drop, Result, Ok, Err, nat_lt, if◌then◌else◌}
use Rattle.std.specs.Str.{bytes_eq}
use Rattle.byteorder.specs.Endian.{big_number}
use Rattle.nbd_codec.specs.declared.findings.Fault.{Fault}
use Rattle.nbd_codec.specs.declared.fields.Ending.{Ending}
use Rattle.nbd_codec.specs.declared.fields.Ending.TheVariants as endings

-- one field, and then what the rest gives
infixl 10 ◌>>=◌
abbrev pub ◌>>=◌ : {A B : Type 0} → Result A Ending → (A → Result B Ending) → Result B Ending
(Ok x) >>= f = f x
(Err e) >>= f = Err e

-- what reading gives, seen by f
abbrev pub read_as : {X Y : Type 0} → (X → Y) → Result X Ending → Result Y Ending
read_as f (Ok x) = Ok (f x)
read_as f (Err e) = Err e

-- what a function returned, seen by view, is what reading gives
abbrev pub Gives : {X Y : Type 0} → (X → Y) → Result X Ending → Result Y Ending → Type 0
Gives view (Ok x) read = read ≡ Ok (view x)
Gives view (Err e) read = read ≡ Err e

-- the bytes are those of the magic, as far as both go
abbrev pub agrees : List ℕ → List ℕ → Bool
agrees magic bytes = bytes_eq (take (min (length magic) (length bytes)) magic) (take (min (length magic) (length bytes)) bytes)

-- the bytes after the magic
unfoldable pub magic_at : List ℕ → Fault → List ℕ → Result (List ℕ) Ending
magic_at magic fault bytes =
    if agrees magic bytes then
    (if nat_lt (length bytes) (length magic) then Err endings.Short else Ok (drop (length magic) bytes))
    else Err (endings.Fault fault)

-- a number of n bytes
unfoldable pub number_at : ℕ → List ℕ → Result (ℕ × List ℕ) Ending
number_at n bytes = if nat_lt (length bytes) n then Err endings.Short else Ok (big_number n bytes, drop n bytes)

-- a number of four bytes, at most the limit: bytes that are still to come count as 0
unfoldable pub limited_at : ℕ → Fault → List ℕ → Result (ℕ × List ℕ) Ending
limited_at limit fault bytes = if nat_lt limit (big_number 4 bytes) then Err (endings.Fault fault) else number_at 4 bytes

-- that many bytes
unfoldable pub bytes_at : ℕ → List ℕ → Result (List ℕ × List ℕ) Ending
bytes_at len bytes = if nat_lt (length bytes) len then Err endings.Short else Ok (take len bytes, drop len bytes)
