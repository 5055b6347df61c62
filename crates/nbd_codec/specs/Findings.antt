-- What a reader finds, seen by contracts.
use Rattle.std.specs.Prelude.{◌≡◌, ℕ, ◌-◌, ◌<◌, List, ◌++◌, length, drop, slice_index, Result, Ok, Err, ⊤}
use Rattle.nbd_codec.specs.declared.fields.Ending.{Ending}
use Rattle.nbd_codec.specs.declared.fields.Ending.TheVariants as endings
use Rattle.nbd_codec.specs.declared.findings.Reading.{Reading}
use Rattle.nbd_codec.specs.declared.findings.Reading.TheVariants.{Value, More, Fault}

-- each is a byte
abbrev pub AreBytes : List ℕ → Type 0
AreBytes bytes = (i : ℕ) → slice_index bytes i < 256

-- the value, if there is one, as view shows it
abbrev pub seen_by : {A B : Type 0} → (A → B) → Reading A → Reading B
seen_by view (Value x len) = Value (view x) len
seen_by view More = More
seen_by view (Fault fault) = Fault fault

-- the fact for a value and its length
abbrev pub IfValue : {A : Type 0} → Reading A → (A → ℕ → Type 0) → Type 0
IfValue (Value x len) P = P x len
IfValue More P = ⊤
IfValue (Fault fault) P = ⊤

-- a field as what is found at the front of all bytes: a value takes the bytes that are not left
abbrev pub finding : {A : Type 0} → List ℕ → Result (A × List ℕ) Ending → Reading A
finding bytes (Ok field) = Value field.0 (length bytes - length field.1)
finding bytes (Err endings.Short) = More
finding bytes (Err (endings.Fault fault)) = Fault fault

-- a value that fits stands at the front of the bytes, and takes this many of them
pub record Takes {A : Type 0} (encoding : A → List ℕ) (Fits : A → Type 0) (bytes : List ℕ) (value : A) (taken : ℕ) : Type 0 where
  pub fits : Fits value
  pub len : taken ≡ length (encoding value)
  pub whole : bytes ≡ encoding value ++ drop taken bytes

-- the bytes are a proper prefix of the encoding of a value that fits
pub record IsProperPrefix {A : Type 0} (encoding : A → List ℕ) (Fits : A → Type 0) (bytes : List ℕ) : Type 0 where
  pub value : A
  pub rest : List ℕ
  pub fits : Fits value
  pub some : 0 < length rest
  pub whole : bytes ++ rest ≡ encoding value

-- the bytes can't become a text with a value that fits at its front, however they go on
abbrev pub IsImpossible : {A : Type 0} → (A → List ℕ) → (A → Type 0) → List ℕ → Type 0
IsImpossible {A = A} encoding Fits bytes = (value : A) (more rest : List ℕ) → Fits value → bytes ++ more ≡ encoding value ++ rest → ⊥

-- a fault was found
abbrev pub IsFault : {A : Type 0} → Reading A → Type 0
IsFault (Value x len) = ⊥
IsFault More = ⊥
IsFault (Fault fault) = Unit {0}
