-- Requests: what is read is encoded so, and what is encoded so is read.
use Rattle.std.proofs.Common.{◌+◌, cond, ◌≡◌, ℕ, ◌^◌, ◌<◌, ◌≤◌, true, false, eqb, List, [], ◌++◌, length, length-append, Result, Ok, refl, sym, ap, subst, ◌∙◌, arith, inl, inr}
use Rattle.std.proofs.lemmas.Bool.{eqb-true, eqb-false, ne_eqb, cases_Bool, cond-true, cond-false, cond_both}
use Rattle.std.proofs.lemmas.List.{append-nil}
use Rattle.byteorder.specs.Endian.{big_bytes}
use Rattle.nbd_codec.specs.declared.constants.TheConstants.{REQUEST_HEADER, REQUEST_MAGIC, REQUEST_READ, REQUEST_WRITE, REQUEST_DISC, REQUEST_FLUSH, REQUEST_WRITE_ZEROES}
use Rattle.nbd_codec.specs.declared.findings.Fault.TheVariants.{RequestMagic, PayloadTooLong}
use Rattle.nbd_codec.specs.declared.fields.Ending.{Ending}
use Rattle.nbd_codec.specs.declared.requests.Head.{Head}
use Rattle.nbd_codec.specs.Fields.{◌>>=◌, magic_at, number_at, limited_at, bytes_at}
use Rattle.nbd_codec.specs.Findings.{AreBytes}
use Rattle.nbd_codec.specs.Request.{PlainRequest, Read, Write, Disc, Flush, Zero, Other, head_of, head_at, body_at, request_at, plain, head_encoding, body_encoding, encoding, IsKnown, HeadFits, BodyFits, IsRequest}
use Rattle.nbd_codec.proofs.Parts.{IsField, IsField-both}
use Rattle.nbd_codec.proofs.BigNumbers.{width2, width4, width8}
use Rattle.nbd_codec.proofs.Basics.{IsField-limited, IsField-number, IsField-made}
use Rattle.nbd_codec.proofs.Magics.{IsField-behind}
use Rattle.nbd_codec.proofs.Maps.{bind_assoc, IsField-reencoded, IsField-seen, IsField-string, IsString, string_of, string_text}

-- ---- the head

abbrev pub made_head : ℕ → ℕ → ℕ → ℕ → Head
made_head a b c d = record { flags = a; kind = b; cookie = c; offset = d }

abbrev With1 : ℕ → Head → Type 0
With1 a h = HeadFits h × (h.flags ≡ a)

abbrev With2 : ℕ → ℕ → Head → Type 0
With2 a b h = With1 a h × (h.kind ≡ b)

abbrev With3 : ℕ → ℕ → ℕ → Head → Type 0
With3 a b c h = With2 a b h × (h.cookie ≡ c)

abbrev With4 : ℕ → ℕ → ℕ → ℕ → Head → Type 0
With4 a b c d h = With3 a b c h × (h.offset ≡ d)

head_is : (h : Head) (a b c d : ℕ) → h.flags ≡ a → h.kind ≡ b → h.cookie ≡ c → h.offset ≡ d → h ≡ made_head a b c d
head_is h a b c d p q r s =
    ap (λ (x : ℕ). made_head x h.kind h.cookie h.offset) p ∙ ap (λ (x : ℕ). made_head a x h.cookie h.offset) q ∙ ap (λ (x : ℕ). made_head a b x h.offset) r ∙ ap (λ (x : ℕ). made_head a b c x) s

fitting : (a b c d : ℕ) → a < 2 ^ 16 → b < 2 ^ 16 → c < 2 ^ 64 → d < 2 ^ 64 → HeadFits (made_head a b c d)
fitting a b c d p q r s = record { flags = p; kind = q; cookie = r; offset = s }

abbrev nothing : Head → List ℕ
nothing h = []

abbrev text4 : Head → List ℕ
text4 h = big_bytes 8 h.offset ++ nothing h

abbrev text3 : Head → List ℕ
text3 h = big_bytes 8 h.cookie ++ text4 h

abbrev text2 : Head → List ℕ
text2 h = big_bytes 2 h.kind ++ text3 h

abbrev text1 : Head → List ℕ
text1 h = big_bytes 2 h.flags ++ text2 h

abbrev pub at4 : ℕ → ℕ → ℕ → List ℕ → Result (Head × List ℕ) Ending
at4 a b c bytes = number_at 8 bytes >>= λ offset. Ok (made_head a b c offset.0, offset.1)

abbrev pub at3 : ℕ → ℕ → List ℕ → Result (Head × List ℕ) Ending
at3 a b bytes = number_at 8 bytes >>= λ cookie. at4 a b cookie.0 cookie.1

abbrev pub at2 : ℕ → List ℕ → Result (Head × List ℕ) Ending
at2 a bytes = number_at 2 bytes >>= λ kind. at3 a kind.0 kind.1

abbrev pub at1 : List ℕ → Result (Head × List ℕ) Ending
at1 bytes = number_at 2 bytes >>= λ flags. at2 flags.0 flags.1

field4 : (a b c : ℕ) → a < 2 ^ 16 → b < 2 ^ 16 → c < 2 ^ 64 → IsField (at4 a b c) text4 (With3 a b c)
field4 a b c p q r =
    IsField-both (number_at 8) (big_bytes 8) (λ x. x < 256 ^ 8) (λ d bytes. Ok (made_head a b c d, bytes)) nothing (With3 a b c) (λ h. h.offset) (IsField-number 8 width8)
    (λ d s. IsField-made (made_head a b c d) nothing (With4 a b c d) ((((fitting a b c d p q r s, refl), refl), refl), refl) (λ h w. head_is h a b c d w.0.0.0.1 w.0.0.1 w.0.1 w.1) (λ h w. refl))
    (λ h w. w.0.0.0.offset)
    (λ d s. (made_head a b c d, ((((fitting a b c d p q r s, refl), refl), refl)), refl))

field3 : (a b : ℕ) → a < 2 ^ 16 → b < 2 ^ 16 → IsField (at3 a b) text3 (With2 a b)
field3 a b p q =
    IsField-both (number_at 8) (big_bytes 8) (λ x. x < 256 ^ 8) (λ c bytes. at4 a b c bytes) text4 (With2 a b) (λ h. h.cookie) (IsField-number 8 width8)
    (λ c r. field4 a b c p q r)
    (λ h w. w.0.0.cookie)
    (λ c r. (made_head a b c 0, ((fitting a b c 0 p q r (omega arith), refl), refl), refl))

field2 : (a : ℕ) → a < 2 ^ 16 → IsField (at2 a) text2 (With1 a)
field2 a p =
    IsField-both (number_at 2) (big_bytes 2) (λ x. x < 256 ^ 2) (λ b bytes. at3 a b bytes) text3 (With1 a) (λ h. h.kind) (IsField-number 2 width2)
    (λ b q. field3 a b p q)
    (λ h w. w.0.kind)
    (λ b q. (made_head a b 0 0, (fitting a b 0 0 p q (omega arith) (omega arith), refl), refl))

field1 : IsField at1 text1 HeadFits
field1 =
    IsField-both (number_at 2) (big_bytes 2) (λ x. x < 256 ^ 2) (λ a bytes. at2 a bytes) text2 HeadFits (λ h. h.flags) (IsField-number 2 width2)
    (λ a p. field2 a p)
    (λ h w. w.flags)
    (λ a p. (made_head a 0 0 0, fitting a 0 0 0 p (omega arith) (omega arith) (omega arith), refl))

some_head : (h : Head) × HeadFits h
some_head = (made_head 0 0 0 0, fitting 0 0 0 0 (omega arith) (omega arith) (omega arith) (omega arith))

head_behind : IsField (λ bytes. magic_at (big_bytes 4 REQUEST_MAGIC) RequestMagic bytes >>= λ rest. at1 rest) (λ h. big_bytes 4 REQUEST_MAGIC ++ text1 h) HeadFits
head_behind = IsField-behind (big_bytes 4 REQUEST_MAGIC) RequestMagic at1 text1 HeadFits field1 some_head

head_text : (h : Head) → head_encoding h ≡ big_bytes 4 REQUEST_MAGIC ++ text1 h
unfolding head_encoding
head_text h = ap (λ (x : List ℕ). big_bytes 4 REQUEST_MAGIC ++ (big_bytes 2 h.flags ++ (big_bytes 2 h.kind ++ (big_bytes 8 h.cookie ++ x)))) (sym (append-nil (big_bytes 8 h.offset)))

pub head_reads : (bytes : List ℕ) → head_at bytes ≡ (magic_at (big_bytes 4 REQUEST_MAGIC) RequestMagic bytes >>= λ rest. at1 rest)
unfolding head_at
head_reads bytes = refl

pub IsField-head : IsField head_at head_encoding HeadFits
IsField-head =
    IsField-reencoded (λ bytes. magic_at (big_bytes 4 REQUEST_MAGIC) RequestMagic bytes >>= λ rest. at1 rest) head_at (λ h. big_bytes 4 REQUEST_MAGIC ++ text1 h) head_encoding HeadFits HeadFits head_behind head_reads (λ h w. w) (λ h w. w) (λ h w. head_text h)

-- ---- the body

-- the body of a request with that head
abbrev Has : ℕ → Head → PlainRequest → Type 0
Has limit h request = BodyFits limit request × (head_of request ≡ h)

abbrev pub write_of : Head → List ℕ → PlainRequest
write_of h payload = Write h.flags h.cookie h.offset payload

write_into : (limit : ℕ) (h : Head) (payload : List ℕ) → h.kind ≡ REQUEST_WRITE → (length payload ≤ limit) × AreBytes payload → Has limit h (write_of h payload) × (body_encoding (write_of h payload) ≡ big_bytes 4 (length payload) ++ payload)
unfolding body_encoding
write_into limit h payload e fits = ((fits, ap (λ (k : ℕ). made_head h.flags k h.cookie h.offset) (sym e)), refl)

write_back : (limit : ℕ) (h : Head) (request : PlainRequest) → h.kind ≡ REQUEST_WRITE → Has limit h request → (payload : List ℕ) × ((length payload ≤ limit) × AreBytes payload) × (write_of h payload ≡ request)
write_back limit h (Read flags cookie offset len) e fits = let k : REQUEST_READ ≡ h.kind = ap (λ (x : Head). x.kind) fits.1 in absurd (omega arith)
write_back limit h (Write flags cookie offset payload) e fits = (payload, fits.0, ap (λ (x : Head). write_of x payload) (sym fits.1))
write_back limit h (Disc flags cookie offset len) e fits = let k : REQUEST_DISC ≡ h.kind = ap (λ (x : Head). x.kind) fits.1 in absurd (omega arith)
write_back limit h (Flush flags cookie offset len) e fits = let k : REQUEST_FLUSH ≡ h.kind = ap (λ (x : Head). x.kind) fits.1 in absurd (omega arith)
write_back limit h (Zero flags cookie offset len) e fits = let k : REQUEST_WRITE_ZEROES ≡ h.kind = ap (λ (x : Head). x.kind) fits.1 in absurd (omega arith)
write_back limit h (Other kind flags cookie offset len) e fits = let k : kind ≡ h.kind = ap (λ (x : Head). x.kind) fits.1 in absurd (fits.0.1 (inr (inl (k ∙ e))))

write_field : (limit : ℕ) (h : Head) → limit < 2 ^ 32 → h.kind ≡ REQUEST_WRITE → IsField (λ bytes. string_of (limited_at limit PayloadTooLong) bytes >>= λ a. Ok (write_of h a.0, a.1)) body_encoding (Has limit h)
write_field limit h small e =
    IsField-seen (string_of (limited_at limit PayloadTooLong)) string_text (IsString (λ n. n ≤ limit)) (write_of h) body_encoding (Has limit h) (IsField-string (limited_at limit PayloadTooLong) (λ n. n ≤ limit) (IsField-limited limit PayloadTooLong width4 small)) (λ payload fits. write_into limit h payload e fits) (λ request fits. write_back limit h request e fits)

-- ---- a request with no payload

unknown : (k : ℕ) → (k ≡ REQUEST_READ → ⊥) → (k ≡ REQUEST_WRITE → ⊥) → (k ≡ REQUEST_DISC → ⊥) → (k ≡ REQUEST_FLUSH → ⊥) → (k ≡ REQUEST_WRITE_ZEROES → ⊥) → IsKnown k → ⊥
unknown k n0 n1 n2 n3 n6 (inl e) = n0 e
unknown k n0 n1 n2 n3 n6 (inr (inl e)) = n1 e
unknown k n0 n1 n2 n3 n6 (inr (inr (inl e))) = n2 e
unknown k n0 n1 n2 n3 n6 (inr (inr (inr (inl e)))) = n3 e
unknown k n0 n1 n2 n3 n6 (inr (inr (inr (inr e)))) = n6 e

-- the request with no payload, and what encodes its body
abbrev Into : ℕ → Head → ℕ → PlainRequest → Type 0
Into limit h len request = Has limit h request × (body_encoding request ≡ big_bytes 4 len)

step : (limit : ℕ) (h : Head) (len own : ℕ) (x y : PlainRequest) → (made_head h.flags own h.cookie h.offset ≡ h → Into limit h len x) → ((h.kind ≡ own → ⊥) → Into limit h len y) → Into limit h len (cond (eqb h.kind own) x y)
step limit h len own x y is isnt =
    cond_both (eqb h.kind own) x y (Into limit h len) (λ e. is (ap (λ (k : ℕ). made_head h.flags k h.cookie h.offset) (sym (eqb-true _ _ e)))) (λ e. isnt (eqb-false _ _ e))

plain_into : (limit : ℕ) (h : Head) (len : ℕ) → (h.kind ≡ REQUEST_WRITE → ⊥) → len < 2 ^ 32 → Into limit h len (plain h len)
unfolding body_encoding
plain_into limit h len n1 fits =
    step limit h len REQUEST_READ _ _ (λ e. ((fits, e), refl)) (λ n0.
    step limit h len REQUEST_DISC _ _ (λ e. ((fits, e), refl)) (λ n2.
    step limit h len REQUEST_FLUSH _ _ (λ e. ((fits, e), refl)) (λ n3.
    step limit h len REQUEST_WRITE_ZEROES _ _ (λ e. ((fits, e), refl)) (λ n6.
    (((fits, unknown h.kind n0 n1 n2 n3 n6), refl), refl)))))

len_of : PlainRequest → ℕ
len_of (Read flags cookie offset len) = len
len_of (Write flags cookie offset payload) = 0
len_of (Disc flags cookie offset len) = len
len_of (Flush flags cookie offset len) = len
len_of (Zero flags cookie offset len) = len
len_of (Other kind flags cookie offset len) = len

plain_back_own : (limit : ℕ) (request : PlainRequest) → ((head_of request).kind ≡ REQUEST_WRITE → ⊥) → BodyFits limit request → (len_of request < 2 ^ 32) × (plain (head_of request) (len_of request) ≡ request)
unfolding len_of
plain_back_own limit (Read flags cookie offset len) other fits = (fits, refl)
plain_back_own limit (Write flags cookie offset payload) other fits = absurd (other refl)
plain_back_own limit (Disc flags cookie offset len) other fits = (fits, refl)
plain_back_own limit (Flush flags cookie offset len) other fits = (fits, refl)
plain_back_own limit (Zero flags cookie offset len) other fits = (fits, refl)
plain_back_own limit (Other kind flags cookie offset len) other fits =
    let e0 = ne_eqb kind REQUEST_READ (λ k. fits.1 (inl k)) in
    let e2 = ne_eqb kind REQUEST_DISC (λ k. fits.1 (inr (inr (inl k)))) in
    let e3 = ne_eqb kind REQUEST_FLUSH (λ k. fits.1 (inr (inr (inr (inl k))))) in
    let e6 = ne_eqb kind REQUEST_WRITE_ZEROES (λ k. fits.1 (inr (inr (inr (inr k))))) in
    (fits.0, rw (e0, e2, e3, e6) refl)

plain_back : (limit : ℕ) (h : Head) (request : PlainRequest) → (h.kind ≡ REQUEST_WRITE → ⊥) → Has limit h request → (len : ℕ) × (len < 2 ^ 32) × (plain h len ≡ request)
plain_back limit h request other fits =
    let own = plain_back_own limit request (λ k. other (ap (λ (x : Head). x.kind) (sym fits.1) ∙ k)) fits.0 in
    (len_of request, own.0, ap (λ (x : Head). plain x (len_of request)) (sym fits.1) ∙ own.1)

plain_field : (limit : ℕ) (h : Head) → (h.kind ≡ REQUEST_WRITE → ⊥) → IsField (λ bytes. number_at 4 bytes >>= λ a. Ok (plain h a.0, a.1)) body_encoding (Has limit h)
plain_field limit h other =
    IsField-seen (number_at 4) (big_bytes 4) (λ x. x < 256 ^ 4) (plain h) body_encoding (Has limit h) (IsField-number 4 width4) (λ len fits. plain_into limit h len other fits) (λ request fits. plain_back limit h request other fits)

-- ---- either body

pub write_reads : (limit : ℕ) (h : Head) → eqb h.kind REQUEST_WRITE ≡ true → (bytes : List ℕ) → body_at limit h bytes ≡ (string_of (limited_at limit PayloadTooLong) bytes >>= λ a. Ok (write_of h a.0, a.1))
unfolding body_at
write_reads limit h e bytes = cond-true (eqb h.kind REQUEST_WRITE) _ _ e ∙ sym (bind_assoc (limited_at limit PayloadTooLong bytes) (λ len. bytes_at len.0 len.1) (λ a. Ok (write_of h a.0, a.1)))

pub plain_reads : (limit : ℕ) (h : Head) → eqb h.kind REQUEST_WRITE ≡ false → (bytes : List ℕ) → body_at limit h bytes ≡ (number_at 4 bytes >>= λ a. Ok (plain h a.0, a.1))
unfolding body_at
plain_reads limit h e bytes = cond-false (eqb h.kind REQUEST_WRITE) _ _ e

IsField-body : (limit : ℕ) (h : Head) → limit < 2 ^ 32 → IsField (body_at limit h) body_encoding (Has limit h)
IsField-body limit h small =
    elim (cases_Bool (eqb h.kind REQUEST_WRITE)) [
      | inl e ↦ IsField-reencoded (λ bytes. string_of (limited_at limit PayloadTooLong) bytes >>= λ a. Ok (write_of h a.0, a.1)) (body_at limit h) body_encoding body_encoding (Has limit h) (Has limit h) (write_field limit h small (eqb-true _ _ e)) (write_reads limit h e) (λ x w. w) (λ x w. w) (λ x w. refl)
      | inr e ↦ IsField-reencoded (λ bytes. number_at 4 bytes >>= λ a. Ok (plain h a.0, a.1)) (body_at limit h) body_encoding body_encoding (Has limit h) (Has limit h) (plain_field limit h (eqb-false _ _ e)) (plain_reads limit h e) (λ x w. w) (λ x w. w) (λ x w. refl)
    ]

-- ---- the request

some_with : (limit : ℕ) (h : Head) → HeadFits h → (request : PlainRequest) × IsRequest limit request × (head_of request ≡ h)
some_with limit h fits =
    elim (cases_Bool (eqb h.kind REQUEST_WRITE)) [
      | inl e ↦
          let w = write_into limit h [] (eqb-true _ _ e) (omega arith, λ i. omega arith) in
          (write_of h [], record { head = subst HeadFits (sym w.0.1) fits; body = w.0.0 }, w.0.1)
      | inr e ↦
          let w = plain_into limit h 0 (eqb-false _ _ e) (omega arith) in
          (plain h 0, record { head = subst HeadFits (sym w.0.1) fits; body = w.0.0 }, w.0.1)
    ]

body_of_head : (limit : ℕ) (h : Head) → limit < 2 ^ 32 → HeadFits h → IsField (body_at limit h) body_encoding (λ request. IsRequest limit request × (head_of request ≡ h))
body_of_head limit h small fits =
    IsField-reencoded (body_at limit h) (body_at limit h) body_encoding body_encoding (Has limit h) (λ request. IsRequest limit request × (head_of request ≡ h)) (IsField-body limit h small) (λ bytes. refl)
    (λ request w. (w.0.body, w.1))
    (λ request w. (record { head = subst HeadFits (sym w.1) fits; body = w.0 }, w.1))
    (λ request w. refl)

request_field : (limit : ℕ) → limit < 2 ^ 32 → IsField (λ bytes. head_at bytes >>= λ h. body_at limit h.0 h.1) (λ request. head_encoding (head_of request) ++ body_encoding request) (IsRequest limit)
request_field limit small =
    IsField-both head_at head_encoding HeadFits (λ h bytes. body_at limit h bytes) body_encoding (IsRequest limit) head_of IsField-head (λ h fits. body_of_head limit h small fits) (λ request w. w.head) (λ h fits. some_with limit h fits)

request_reads : (limit : ℕ) (bytes : List ℕ) → request_at limit bytes ≡ (head_at bytes >>= λ h. body_at limit h.0 h.1)
unfolding request_at
request_reads limit bytes = refl

request_text : (request : PlainRequest) → encoding request ≡ head_encoding (head_of request) ++ body_encoding request
unfolding encoding
request_text request = refl

pub IsField-request : (limit : ℕ) → limit < 2 ^ 32 → IsField (request_at limit) encoding (IsRequest limit)
IsField-request limit small =
    IsField-reencoded (λ bytes. head_at bytes >>= λ h. body_at limit h.0 h.1) (request_at limit) (λ request. head_encoding (head_of request) ++ body_encoding request) encoding (IsRequest limit) (IsRequest limit) (request_field limit small) (request_reads limit) (λ x w. w) (λ x w. w) (λ x w. request_text x)

-- ---- its length

pub head_len : (h : Head) → length (head_encoding h) ≡ 24
unfolding head_encoding
head_len h = refl

body_len : (request : PlainRequest) → 4 ≤ length (body_encoding request)
unfolding body_encoding
body_len (Read flags cookie offset len) = omega arith
body_len (Write flags cookie offset payload) = omega arith
body_len (Disc flags cookie offset len) = omega arith
body_len (Flush flags cookie offset len) = omega arith
body_len (Zero flags cookie offset len) = omega arith
body_len (Other kind flags cookie offset len) = omega arith

pub encoding_len : (request : PlainRequest) → REQUEST_HEADER ≤ length (encoding request)
unfolding encoding
encoding_len request = omega (arith, length-append (head_encoding (head_of request)) (body_encoding request), head_len (head_of request), body_len request)

body_short : (max_payload : ℕ) (request : PlainRequest) → BodyFits max_payload request → length (body_encoding request) ≤ 4 + max_payload
unfolding body_encoding
body_short max_payload (Read flags cookie offset len) fits = omega arith
body_short max_payload (Write flags cookie offset payload) fits = omega (arith, fits.0)
body_short max_payload (Disc flags cookie offset len) fits = omega arith
body_short max_payload (Flush flags cookie offset len) fits = omega arith
body_short max_payload (Zero flags cookie offset len) fits = omega arith
body_short max_payload (Other kind flags cookie offset len) fits = omega arith

-- and at most its header and the longest payload
pub encoding_short : (max_payload : ℕ) (request : PlainRequest) → IsRequest max_payload request → length (encoding request) ≤ REQUEST_HEADER + max_payload
unfolding encoding
encoding_short max_payload request fits = omega (arith, length-append (head_encoding (head_of request)) (body_encoding request), head_len (head_of request), body_short max_payload request fits.body)
