-- The encoding of requests, and how they are read from left to right.
use Rattle.std.specs.Prelude.{◌≡◌, ℕ, ◌<◌, ◌≤◌, ◌^◌, ◌⊎◌, List, [], ◌++◌, length, Result, Ok, ◌==◌, if◌then◌else◌}
use Rattle.byteorder.specs.Endian.{big_bytes, big_number}
use Rattle.nbd_codec.specs.declared.constants.TheConstants.{REQUEST_MAGIC, REQUEST_READ, REQUEST_WRITE, REQUEST_DISC, REQUEST_FLUSH, REQUEST_WRITE_ZEROES}
use Rattle.nbd_codec.specs.declared.findings.Reading.{Reading}
use Rattle.nbd_codec.specs.declared.findings.Fault.TheVariants.{RequestMagic, PayloadTooLong}
use Rattle.nbd_codec.specs.declared.fields.Ending.{Ending}
use Rattle.nbd_codec.specs.declared.requests.Head.{Head}
use Rattle.nbd_codec.specs.declared.requests.Request.{Request}
use Rattle.nbd_codec.specs.declared.requests.Request.TheVariants as requests
use Rattle.nbd_codec.specs.Fields.{◌>>=◌, magic_at, number_at, limited_at, bytes_at}
use Rattle.nbd_codec.specs.Findings.{AreBytes, finding}

-- a request without where it lies in memory
pub data PlainRequest : Type 0 where
  Read : (flags cookie offset len : ℕ) → PlainRequest
  Write : (flags cookie offset : ℕ) → (payload : List ℕ) → PlainRequest
  Disc : (flags cookie offset len : ℕ) → PlainRequest
  Flush : (flags cookie offset len : ℕ) → PlainRequest
  Zero : (flags cookie offset len : ℕ) → PlainRequest
  Other : (kind flags cookie offset len : ℕ) → PlainRequest

-- a request as contracts see it
abbrev pub request_view : Request → PlainRequest
request_view (requests.Read flags cookie offset len) = Read flags cookie offset len
request_view (requests.Write flags cookie offset payload) = Write flags cookie offset payload.now
request_view (requests.Disc flags cookie offset len) = Disc flags cookie offset len
request_view (requests.Flush flags cookie offset len) = Flush flags cookie offset len
request_view (requests.Zero flags cookie offset len) = Zero flags cookie offset len
request_view (requests.Other kind flags cookie offset len) = Other kind flags cookie offset len

-- the payload, which only a WRITE has
abbrev pub payload_of : PlainRequest → List ℕ
payload_of (Read flags cookie offset len) = []
payload_of (Write flags cookie offset payload) = payload
payload_of (Disc flags cookie offset len) = []
payload_of (Flush flags cookie offset len) = []
payload_of (Zero flags cookie offset len) = []
payload_of (Other kind flags cookie offset len) = []

-- the numbers of a request before its length
abbrev pub head_of : PlainRequest → Head
head_of (Read flags cookie offset len) = record { flags = flags; kind = REQUEST_READ; cookie = cookie; offset = offset }
head_of (Write flags cookie offset payload) = record { flags = flags; kind = REQUEST_WRITE; cookie = cookie; offset = offset }
head_of (Disc flags cookie offset len) = record { flags = flags; kind = REQUEST_DISC; cookie = cookie; offset = offset }
head_of (Flush flags cookie offset len) = record { flags = flags; kind = REQUEST_FLUSH; cookie = cookie; offset = offset }
head_of (Zero flags cookie offset len) = record { flags = flags; kind = REQUEST_WRITE_ZEROES; cookie = cookie; offset = offset }
head_of (Other kind flags cookie offset len) = record { flags = flags; kind = kind; cookie = cookie; offset = offset }

-- the magic, and the numbers of a request before its length
unfoldable pub head_encoding : Head → List ℕ
head_encoding head = big_bytes 4 REQUEST_MAGIC ++ (big_bytes 2 head.flags ++ (big_bytes 2 head.kind ++ (big_bytes 8 head.cookie ++ big_bytes 8 head.offset)))

-- the length, and behind that of a WRITE the payload
unfoldable pub body_encoding : PlainRequest → List ℕ
body_encoding (Read flags cookie offset len) = big_bytes 4 len
body_encoding (Write flags cookie offset payload) = big_bytes 4 (length payload) ++ payload
body_encoding (Disc flags cookie offset len) = big_bytes 4 len
body_encoding (Flush flags cookie offset len) = big_bytes 4 len
body_encoding (Zero flags cookie offset len) = big_bytes 4 len
body_encoding (Other kind flags cookie offset len) = big_bytes 4 len

-- the one encoding of a request
unfoldable pub encoding : PlainRequest → List ℕ
encoding request = head_encoding (head_of request) ++ body_encoding request

-- a number of a type that has a variant of its own
abbrev pub IsKnown : ℕ → Type 0
IsKnown kind = (kind ≡ REQUEST_READ) ⊎ ((kind ≡ REQUEST_WRITE) ⊎ ((kind ≡ REQUEST_DISC) ⊎ ((kind ≡ REQUEST_FLUSH) ⊎ (kind ≡ REQUEST_WRITE_ZEROES))))

-- the numbers fit their bytes
pub record HeadFits (head : Head) : Type 0 where
  pub flags : head.flags < 2 ^ 16
  pub kind : head.kind < 2 ^ 16
  pub cookie : head.cookie < 2 ^ 64
  pub offset : head.offset < 2 ^ 64

-- the length fits its bytes, the payload of a WRITE is at most max_payload bytes, and the others are of other types
abbrev pub BodyFits : ℕ → PlainRequest → Type 0
BodyFits max_payload (Read flags cookie offset len) = len < 2 ^ 32
BodyFits max_payload (Write flags cookie offset payload) = (length payload ≤ max_payload) × AreBytes payload
BodyFits max_payload (Disc flags cookie offset len) = len < 2 ^ 32
BodyFits max_payload (Flush flags cookie offset len) = len < 2 ^ 32
BodyFits max_payload (Zero flags cookie offset len) = len < 2 ^ 32
BodyFits max_payload (Other kind flags cookie offset len) = (len < 2 ^ 32) × ¬ IsKnown kind

-- what has an encoding that is taken
pub record IsRequest (max_payload : ℕ) (request : PlainRequest) : Type 0 where
  pub head : HeadFits (head_of request)
  pub body : BodyFits max_payload request

-- the numbers of a request before its length
unfoldable pub head_at : List ℕ → Result (Head × List ℕ) Ending
head_at bytes = do
  start ← magic_at (big_bytes 4 REQUEST_MAGIC) RequestMagic bytes
  flags ← number_at 2 start
  kind ← number_at 2 flags.1
  cookie ← number_at 8 kind.1
  offset ← number_at 8 cookie.1
  Ok (record { flags = flags.0; kind = kind.0; cookie = cookie.0; offset = offset.0 }, offset.1)

-- a request that is no WRITE
abbrev pub plain : Head → ℕ → PlainRequest
plain head len =
    if head.kind == REQUEST_READ then Read head.flags head.cookie head.offset len
    else (if head.kind == REQUEST_DISC then Disc head.flags head.cookie head.offset len
    else (if head.kind == REQUEST_FLUSH then Flush head.flags head.cookie head.offset len
    else (if head.kind == REQUEST_WRITE_ZEROES then Zero head.flags head.cookie head.offset len
    else Other head.kind head.flags head.cookie head.offset len)))

-- the payload of a WRITE behind its length, or the length alone
unfoldable pub body_at : ℕ → Head → List ℕ → Result (PlainRequest × List ℕ) Ending
body_at max_payload head bytes =
    if head.kind == REQUEST_WRITE then (do
      len ← limited_at max_payload PayloadTooLong bytes
      payload ← bytes_at len.0 len.1
      Ok (Write head.flags head.cookie head.offset payload.0, payload.1))
    else (do
      len ← number_at 4 bytes
      Ok (plain head len.0, len.1))

-- the request at the front, and the bytes after it
unfoldable pub request_at : ℕ → List ℕ → Result (PlainRequest × List ℕ) Ending
request_at max_payload bytes = do
  head ← head_at bytes
  body_at max_payload head.0 head.1

-- what a reader of requests finds
abbrev pub request_in : ℕ → List ℕ → Reading PlainRequest
request_in max_payload bytes = finding bytes (request_at max_payload bytes)

-- the head of a WRITE, and so much of its length that it is above max_payload: bytes that are still to come count as 0
pub record HasLongPayload (max_payload : ℕ) (bytes : List ℕ) : Type 0 where
  pub head : Head
  pub rest : List ℕ
  pub fits : HeadFits head
  pub is_write : head.kind ≡ REQUEST_WRITE
  pub whole : bytes ≡ head_encoding head ++ rest
  pub long : max_payload < big_number 4 rest
