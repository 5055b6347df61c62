-- The tests of requests, each type's in their order, and what a request asks of the volume.
use Rattle.std.specs.Prelude.{◌≡◌, ◌<◌, ◌≤◌, ℕ, ◌+◌, ◌-◌, ◌*◌, ◌/◌, Bool, Option, Some, None, ⊤, ◌||◌, not, length, bit_and, nat_lt, ◌==◌, if◌then◌else◌}
use Rattle.nbd_codec.specs.declared.constants.TheConstants.{FLAG_FUA, FLAG_NO_HOLE}
use Rattle.nbd_codec.specs.declared.replies.NbdError.TheVariants.{Invalid, NoSpace}
use Rattle.nbd_codec.specs.declared.checks.Ask.{Ask}
use Rattle.nbd_codec.specs.declared.checks.Ask.TheVariants as asks
use Rattle.nbd_codec.specs.declared.checks.Checked.{Checked}
use Rattle.nbd_codec.specs.declared.checks.Checked.TheVariants.{Volume, Done, Refused, Disconnect}
use Rattle.nbd_codec.specs.Request.{PlainRequest, Read, Write, Disc, Flush, Zero, Other}

-- the flag FUA is set
abbrev pub has_fua : (flags : ℕ) → Bool
has_fua flags = not (bit_and flags FLAG_FUA == 0)

-- what a request asks of the volume: FUA changes a WRITE and a WRITE_ZEROES alone
abbrev pub asked_by : PlainRequest → Option Ask
asked_by (Read flags cookie offset len) = Some (asks.Read offset len)
asked_by (Write flags cookie offset payload) = Some (asks.Write offset (length payload) (has_fua flags))
asked_by (Disc flags cookie offset len) = None
asked_by (Flush flags cookie offset len) = Some asks.Flush
asked_by (Zero flags cookie offset len) = Some (asks.Zero offset len (has_fua flags))
asked_by (Other kind flags cookie offset len) = None

-- a flag other than FUA, a length that is too great, a range past the end, no bytes
abbrev pub read_checked : (flags offset len size max_payload : ℕ) → Checked
read_checked flags offset len size max_payload =
    if nat_lt FLAG_FUA flags then Refused Invalid
    else (if nat_lt max_payload len then Refused Invalid
    else (if nat_lt size (offset + len) then Refused Invalid
    else (if len == 0 then Done else Volume (asks.Read offset len))))

-- a flag other than FUA, a range past the end, no bytes
abbrev pub write_checked : (flags offset len size : ℕ) → Checked
write_checked flags offset len size =
    if nat_lt FLAG_FUA flags then Refused Invalid
    else (if nat_lt size (offset + len) then Refused NoSpace
    else (if len == 0 then Done else Volume (asks.Write offset len (has_fua flags))))

-- a flag other than FUA, a range
abbrev pub flush_checked : (flags offset len : ℕ) → Checked
flush_checked flags offset len =
    if nat_lt FLAG_FUA flags then Refused Invalid
    else (if not (offset == 0) || not (len == 0) then Refused Invalid else Volume asks.Flush)

-- how many blocks a range has a byte of, and how many it has whole
abbrev pub touched_blocks : (offset len : ℕ) → ℕ
touched_blocks offset len = (offset + len - 1) / 4096 + 1 - offset / 4096

abbrev pub whole_blocks : (offset len : ℕ) → ℕ
whole_blocks offset len = (offset + len) / 4096 - (offset + 4095) / 4096

-- a range of zeros as a batch of a journal, with the closed gate behind it: a mark for each block that it has whole, and an image of
-- each other block that it touches
abbrev pub zero_batch : (offset len : ℕ) → ℕ
zero_batch offset len = if len == 0 then 14 else 14 + 4100 * (touched_blocks offset len - whole_blocks offset len) + 4 * whole_blocks offset len

-- a flag other than FUA and NO_HOLE, a range past the end, a batch that doesn't fit into an area, no bytes
abbrev pub zero_checked : (flags offset len size area : ℕ) → Checked
zero_checked flags offset len size area =
    if nat_lt (FLAG_FUA + FLAG_NO_HOLE) flags then Refused Invalid
    else (if nat_lt size (offset + len) then Refused NoSpace
    else (if nat_lt area (zero_batch offset len) then Refused Invalid
    else (if len == 0 then Done else Volume (asks.Zero offset len (has_fua flags)))))

-- what is to become of a request to an export of that size
abbrev pub checked : (size max_payload area : ℕ) → PlainRequest → Checked
checked size max_payload area (Read flags cookie offset len) = read_checked flags offset len size max_payload
checked size max_payload area (Write flags cookie offset payload) = write_checked flags offset (length payload) size
checked size max_payload area (Disc flags cookie offset len) = Disconnect
checked size max_payload area (Flush flags cookie offset len) = flush_checked flags offset len
checked size max_payload area (Zero flags cookie offset len) = zero_checked flags offset len size area
checked size max_payload area (Other kind flags cookie offset len) = Refused Invalid

-- some bytes within the export, and no flag other than FUA
pub record IsRange (flags offset len size : ℕ) : Type 0 where
  pub known_flags : flags ≤ FLAG_FUA
  pub some : 0 < len
  pub inside : offset + len ≤ size

-- some bytes within the export, whose zeros fit into an area, and no flag other than FUA and NO_HOLE
pub record IsZeroed (flags offset len size area : ℕ) : Type 0 where
  pub known_flags : flags ≤ FLAG_FUA + FLAG_NO_HOLE
  pub some : 0 < len
  pub inside : offset + len ≤ size
  pub fits : zero_batch offset len ≤ area

-- a request that only the volume can answer
abbrev pub IsForVolume : (size max_payload area : ℕ) → PlainRequest → Type 0
IsForVolume size max_payload area (Read flags cookie offset len) = IsRange flags offset len size × (len ≤ max_payload)
IsForVolume size max_payload area (Write flags cookie offset payload) = IsRange flags offset (length payload) size
IsForVolume size max_payload area (Disc flags cookie offset len) = ⊥
IsForVolume size max_payload area (Flush flags cookie offset len) = (flags ≤ FLAG_FUA) × (offset ≡ 0) × (len ≡ 0)
IsForVolume size max_payload area (Zero flags cookie offset len) = IsZeroed flags offset len size area
IsForVolume size max_payload area (Other kind flags cookie offset len) = ⊥

-- the volume is asked
abbrev pub IsVolume : Checked → Type 0
IsVolume (Volume ask) = ⊤
IsVolume Done = ⊥
IsVolume (Refused error) = ⊥
IsVolume Disconnect = ⊥

-- the fact for what the volume is asked, if it is
abbrev pub IfVolume : Checked → (Ask → Type 0) → Type 0
IfVolume (Volume ask) P = P ask
IfVolume Done P = ⊤
IfVolume (Refused error) P = ⊤
IfVolume Disconnect P = ⊤
