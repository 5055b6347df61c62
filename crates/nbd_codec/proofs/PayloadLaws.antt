-- Where the payload of a WRITE stands.
use Rattle.std.proofs.Common.{◌≡◌, ℕ, ◌+◌, ◌-◌, List, ◌++◌, length, length-append, take, drop, refl, sym, ap, ◌∙◌, append_assoc, arith}
use Rattle.std.specs.Prelude.{slice_range}
use Rattle.std.proofs.lemmas.List.{append-nil, take_at, drop_at}
use Rattle.byteorder.specs.Endian.{big_bytes}
use Rattle.nbd_codec.specs.declared.constants.TheConstants.{REQUEST_HEADER}
use Rattle.nbd_codec.specs.declared.findings.Reading.{Reading}
use Rattle.nbd_codec.specs.declared.findings.Reading.TheVariants as readings
use Rattle.nbd_codec.specs.declared.requests.Request.{Request}
use Rattle.nbd_codec.specs.Findings.{IfValue, Takes}
use Rattle.nbd_codec.specs.Request.{PlainRequest, Read, Write, Disc, Flush, Zero, Other, IsRequest, head_of, head_encoding, body_encoding, payload_of, request_view, encoding}
use Rattle.nbd_codec.proofs.RequestLaws.{head_len}

-- the length, without what stands behind it
length_text : PlainRequest → List ℕ
length_text (Read flags cookie offset len) = big_bytes 4 len
length_text (Write flags cookie offset payload) = big_bytes 4 (length payload)
length_text (Disc flags cookie offset len) = big_bytes 4 len
length_text (Flush flags cookie offset len) = big_bytes 4 len
length_text (Zero flags cookie offset len) = big_bytes 4 len
length_text (Other kind flags cookie offset len) = big_bytes 4 len

length_text_len : (request : PlainRequest) → length (length_text request) ≡ 4
unfolding length_text
length_text_len (Read flags cookie offset len) = refl
length_text_len (Write flags cookie offset payload) = refl
length_text_len (Disc flags cookie offset len) = refl
length_text_len (Flush flags cookie offset len) = refl
length_text_len (Zero flags cookie offset len) = refl
length_text_len (Other kind flags cookie offset len) = refl

body_text : (request : PlainRequest) → body_encoding request ≡ length_text request ++ payload_of request
unfolding body_encoding length_text
body_text (Read flags cookie offset len) = sym (append-nil (big_bytes 4 len))
body_text (Write flags cookie offset payload) = refl
body_text (Disc flags cookie offset len) = sym (append-nil (big_bytes 4 len))
body_text (Flush flags cookie offset len) = sym (append-nil (big_bytes 4 len))
body_text (Zero flags cookie offset len) = sym (append-nil (big_bytes 4 len))
body_text (Other kind flags cookie offset len) = sym (append-nil (big_bytes 4 len))

-- a header, and the payload behind it
header : PlainRequest → List ℕ
header request = head_encoding (head_of request) ++ length_text request

header_len : (request : PlainRequest) → length (header request) ≡ REQUEST_HEADER
unfolding header
header_len request = omega (arith, length-append (head_encoding (head_of request)) (length_text request), head_len (head_of request), length_text_len request)

header_text : (request : PlainRequest) → encoding request ≡ header request ++ payload_of request
unfolding encoding header
header_text request = ap (λ (b : List ℕ). head_encoding (head_of request) ++ b) (body_text request) ∙ sym (append_assoc (head_encoding (head_of request)) (length_text request) (payload_of request))

between : (front middle rest bytes : List ℕ) (start end : ℕ) → length front ≡ start → start + length middle ≡ end → bytes ≡ (front ++ middle) ++ rest → slice_range bytes start end ≡ middle
between front middle rest bytes start end p q e =
    ap (λ (b : List ℕ). slice_range b start end) (e ∙ append_assoc front middle rest) ∙ ap (take (end - start)) (drop_at front (middle ++ rest) start p) ∙ take_at middle rest (end - start) (omega arith)

taken_range : (max : ℕ) (bytes : List ℕ) (request : PlainRequest) (len : ℕ) → Takes encoding (IsRequest max) bytes request len → slice_range bytes REQUEST_HEADER len ≡ payload_of request
taken_range max bytes request len w =
    let text = header_text request in
    between (header request) (payload_of request) (drop len bytes) bytes REQUEST_HEADER len (header_len request)
    (omega (arith, header_len request, w.len, ap length text, length-append (header request) (payload_of request)))
    (w.whole ∙ ap (λ (b : List ℕ). b ++ drop len bytes) text)

-- the bytes of a request behind its header are its payload
pub payload_range : (max : ℕ) (bytes : List ℕ) (r : Reading Request) → IfValue r (λ request len. Takes encoding (IsRequest max) bytes (request_view request) len) → IfValue r (λ request len. slice_range bytes REQUEST_HEADER len ≡ payload_of (request_view request))
payload_range max bytes (readings.Value request len) w = taken_range max bytes (request_view request) len w
payload_range max bytes readings.More w = tt
payload_range max bytes (readings.Fault d) w = tt
