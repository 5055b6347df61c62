-- The encoding of options, and how they are read from left to right.
use Rattle.std.specs.Prelude.{◌≡◌, ◌≢◌, ℕ, ◌+◌, ◌*◌, ◌<◌, ◌≤◌, ◌^◌, ◌⊎◌, List, [], ◌∷◌, ◌++◌, length, slice_index, not, nat_lt, Result, Ok, Err, ◌==◌, if◌then◌else◌}
use Rattle.std.specs.List.{flat_map, list_any}
use Rattle.byteorder.specs.Endian.{big_bytes, big_number}
use Rattle.nbd_codec.specs.declared.constants.TheConstants.{OPTION_MAGIC, OPTION_EXPORT_NAME, OPTION_ABORT, OPTION_LIST, OPTION_INFO, OPTION_GO, INFO_BLOCK_SIZE, MAX_OPTION_DATA}
use Rattle.nbd_codec.specs.declared.findings.Reading.{Reading}
use Rattle.nbd_codec.specs.declared.findings.Fault.TheVariants as faults
use Rattle.nbd_codec.specs.declared.fields.Ending.{Ending}
use Rattle.nbd_codec.specs.declared.fields.Ending.TheVariants.{Short}
use Rattle.nbd_codec.specs.declared.options.Information.{Information}
use Rattle.nbd_codec.specs.declared.options.Information.TheVariants as infos
use Rattle.nbd_codec.specs.declared.options.ClientOption.{ClientOption}
use Rattle.nbd_codec.specs.declared.options.ClientOption.TheVariants as options
use Rattle.nbd_codec.specs.Fields.{◌>>=◌, magic_at, number_at, limited_at, bytes_at}
use Rattle.nbd_codec.specs.Findings.{AreBytes, finding}

-- what the data of INFO and GO holds, without where it lies in memory
pub data PlainInfo : Type 0 where
  Asks : (name types : List ℕ) → PlainInfo
  Malformed : (bytes : List ℕ) → PlainInfo

-- an option without where it lies in memory
pub data PlainOption : Type 0 where
  ExportName : PlainOption
  Abort : (bytes : List ℕ) → PlainOption
  Lists : (bytes : List ℕ) → PlainOption
  Info : (info : PlainInfo) → PlainOption
  Go : (info : PlainInfo) → PlainOption
  Other : (number : ℕ) → (bytes : List ℕ) → PlainOption
  Oversized : (number len : ℕ) → PlainOption

-- what is told of the data of INFO and GO
abbrev pub information_of : PlainInfo → Information
information_of (Asks name types) = infos.Asked (not (length name == 0)) (list_any (λ n. n == INFO_BLOCK_SIZE) types)
information_of (Malformed bytes) = infos.Malformed

-- what is told of an option
abbrev pub told_of : PlainOption → ClientOption
told_of ExportName = options.ExportName
told_of (Abort bytes) = options.Abort
told_of (Lists bytes) = options.List (not (length bytes == 0))
told_of (Info info) = options.Info (information_of info)
told_of (Go info) = options.Go (information_of info)
told_of (Other number bytes) = options.Other number
told_of (Oversized number len) = options.Oversized number len

-- the name behind its length, and the types behind their count; or bytes that don't encode that
unfoldable pub info_encoding : PlainInfo → List ℕ
info_encoding (Asks name types) = (big_bytes 4 (length name) ++ name) ++ (big_bytes 2 (length types) ++ flat_map (big_bytes 2) types)
info_encoding (Malformed bytes) = bytes

-- the number of an option
abbrev pub number_of : PlainOption → ℕ
number_of ExportName = OPTION_EXPORT_NAME
number_of (Abort bytes) = OPTION_ABORT
number_of (Lists bytes) = OPTION_LIST
number_of (Info info) = OPTION_INFO
number_of (Go info) = OPTION_GO
number_of (Other number bytes) = number
number_of (Oversized number len) = number

-- the data of an option, as far as it belongs to the encoding
abbrev pub content_of : PlainOption → List ℕ
content_of ExportName = []
content_of (Abort bytes) = bytes
content_of (Lists bytes) = bytes
content_of (Info info) = info_encoding info
content_of (Go info) = info_encoding info
content_of (Other number bytes) = bytes
content_of (Oversized number len) = []

-- the length of the data of an option
abbrev pub length_of : PlainOption → ℕ
length_of ExportName = 0
length_of (Abort bytes) = length bytes
length_of (Lists bytes) = length bytes
length_of (Info info) = length (info_encoding info)
length_of (Go info) = length (info_encoding info)
length_of (Other number bytes) = length bytes
length_of (Oversized number len) = len

-- the one encoding of an option: an oversized one is encoded by its header alone
unfoldable pub encoding : PlainOption → List ℕ
encoding option = big_bytes 8 OPTION_MAGIC ++ (big_bytes 4 (number_of option) ++ (big_bytes 4 (length_of option) ++ content_of option))

-- a number of an option that has a variant of its own
abbrev pub IsKnown : ℕ → Type 0
IsKnown number = (number ≡ OPTION_EXPORT_NAME) ⊎ ((number ≡ OPTION_ABORT) ⊎ ((number ≡ OPTION_LIST) ⊎ ((number ≡ OPTION_INFO) ⊎ (number ≡ OPTION_GO))))

-- data that is taken
abbrev pub IsData : List ℕ → Type 0
IsData bytes = (length bytes ≤ MAX_OPTION_DATA) × AreBytes bytes

-- a name and types whose lengths fit their bytes
pub record AreAsked (name types : List ℕ) : Type 0 where
  pub name_len : length name < 2 ^ 32
  pub name_bytes : AreBytes name
  pub type_count : length types < 2 ^ 16
  pub each_type : (i : ℕ) → slice_index types i < 2 ^ 16

-- a name and types, or data that doesn't encode any
abbrev pub InfoFits : PlainInfo → Type 0
InfoFits (Asks name types) = AreAsked name types
InfoFits (Malformed bytes) = (name types : List ℕ) → AreAsked name types → bytes ≡ info_encoding (Asks name types) → ⊥

-- EXPORT_NAME, which has no data; data that is taken, under a number of its own; or an oversized option, which isn't EXPORT_NAME
abbrev pub ContentFits : PlainOption → Type 0
ContentFits ExportName = Unit {0}
ContentFits (Abort bytes) = IsData bytes
ContentFits (Lists bytes) = IsData bytes
ContentFits (Info info) = InfoFits info × IsData (info_encoding info)
ContentFits (Go info) = InfoFits info × IsData (info_encoding info)
ContentFits (Other number bytes) = (¬ IsKnown number) × IsData bytes
ContentFits (Oversized number len) = (MAX_OPTION_DATA < len) × (len < 2 ^ 32) × (number ≢ OPTION_EXPORT_NAME)

-- what has an encoding that is taken
pub record IsOption (option : PlainOption) : Type 0 where
  pub number : number_of option < 2 ^ 32
  pub content : ContentFits option

-- the numbers of two bytes that stand one after another
abbrev pub numbers_in : List ℕ → List ℕ
numbers_in [] = []
numbers_in (high ∷ []) = []
numbers_in (high ∷ low ∷ rest) = (high * 256 + low) ∷ numbers_in rest

-- the name behind its length, the types behind their count, and no more
unfoldable pub asks_at : List ℕ → Result PlainInfo Ending
asks_at bytes = do
  len ← number_at 4 bytes
  name ← bytes_at len.0 len.1
  count ← number_at 2 name.1
  types ← bytes_at (2 * count.0) count.1
  if length types.1 == 0 then Ok (Asks name.0 (numbers_in types.0)) else Err Short

-- what the bytes ask for, or the bytes
abbrev pub asks_or : List ℕ → Result PlainInfo Ending → PlainInfo
asks_or bytes (Ok info) = info
asks_or bytes (Err e) = Malformed bytes

-- what the data of INFO and GO holds
abbrev pub info_of : List ℕ → PlainInfo
info_of bytes = asks_or bytes (asks_at bytes)

-- the option of that number with that data, of which EXPORT_NAME has none
abbrev pub option_of : ℕ → List ℕ → PlainOption
option_of number bytes =
    if number == OPTION_EXPORT_NAME then ExportName
    else (if number == OPTION_ABORT then Abort bytes
    else (if number == OPTION_LIST then Lists bytes
    else (if number == OPTION_INFO then Info (info_of bytes)
    else (if number == OPTION_GO then Go (info_of bytes)
    else Other number bytes))))

-- the length of the data of the option of that number, which is 0 for EXPORT_NAME
unfoldable pub length_at : ℕ → List ℕ → Result (ℕ × List ℕ) Ending
length_at number bytes = if number == OPTION_EXPORT_NAME then limited_at 0 faults.ExportName bytes else number_at 4 bytes

-- the option at the front, and the bytes after it
unfoldable pub option_at : List ℕ → Result (PlainOption × List ℕ) Ending
option_at bytes = do
  start ← magic_at (big_bytes 8 OPTION_MAGIC) faults.OptionMagic bytes
  number ← number_at 4 start
  len ← length_at number.0 number.1
  if nat_lt MAX_OPTION_DATA len.0 then Ok (Oversized number.0 len.0, len.1) else (do
    content ← bytes_at len.0 len.1
    Ok (option_of number.0 content.0, content.1))

-- what a reader of options finds
abbrev pub option_in : List ℕ → Reading PlainOption
option_in bytes = finding bytes (option_at bytes)

-- EXPORT_NAME, and so much of its length that it isn't 0: bytes that are still to come count as 0
pub record HasName (bytes : List ℕ) : Type 0 where
  pub rest : List ℕ
  pub whole : bytes ≡ big_bytes 8 OPTION_MAGIC ++ (big_bytes 4 OPTION_EXPORT_NAME ++ rest)
  pub some : 0 < big_number 4 rest
