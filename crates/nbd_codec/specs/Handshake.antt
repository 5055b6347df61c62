-- The encodings of the greeting and of the client flags.
use Rattle.std.specs.Prelude.{ℕ, true, false, List, ◌++◌, Result, Ok, Err, ◌==◌, if◌then◌else◌}
use Rattle.byteorder.specs.Endian.{big_bytes}
use Rattle.nbd_codec.specs.declared.constants.TheConstants.{INIT_MAGIC, OPTION_MAGIC, HANDSHAKE_FLAGS, FIXED_NEWSTYLE, FIXED_NEWSTYLE_NO_ZEROES}
use Rattle.nbd_codec.specs.declared.findings.Reading.{Reading}
use Rattle.nbd_codec.specs.declared.findings.Fault.TheVariants.{ClientFlags}
use Rattle.nbd_codec.specs.declared.fields.Ending.{Ending}
use Rattle.nbd_codec.specs.declared.fields.Ending.TheVariants as endings
use Rattle.nbd_codec.specs.declared.handshake.ClientFlags.{ClientFlags as Flags}
use Rattle.nbd_codec.specs.Fields.{◌>>=◌, limited_at}
use Rattle.nbd_codec.specs.Findings.{finding}

-- the first bytes from the server
abbrev pub greeting_encoding : List ℕ
greeting_encoding = big_bytes 8 INIT_MAGIC ++ (big_bytes 8 OPTION_MAGIC ++ big_bytes 2 HANDSHAKE_FLAGS)

-- the four bytes of client flags
abbrev pub flags_encoding : Flags → List ℕ
flags_encoding flags = big_bytes 4 (if flags.no_zeroes then FIXED_NEWSTYLE_NO_ZEROES else FIXED_NEWSTYLE)

-- the client flags that a number is, and the bytes after it
abbrev pub flags_of : ℕ → List ℕ → Result (Flags × List ℕ) Ending
flags_of bits rest =
    if bits == FIXED_NEWSTYLE then Ok (record { no_zeroes = false }, rest)
    else (if bits == FIXED_NEWSTYLE_NO_ZEROES then Ok (record { no_zeroes = true }, rest) else Err (endings.Fault ClientFlags))

-- the client flags at the front, and the bytes after them
unfoldable pub flags_at : List ℕ → Result (Flags × List ℕ) Ending
flags_at bytes = do
  bits ← limited_at FIXED_NEWSTYLE_NO_ZEROES ClientFlags bytes
  flags_of bits.0 bits.1

-- what a reader of client flags finds
abbrev pub flags_in : List ℕ → Reading Flags
flags_in bytes = finding bytes (flags_at bytes)

-- each client flags that there are have an encoding
abbrev pub AreFlags : Flags → Type 0
AreFlags flags = Unit {0}
