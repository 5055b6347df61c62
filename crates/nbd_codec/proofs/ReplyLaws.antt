-- Replies: no encoding of one begins another.
use Rattle.std.proofs.Common.{◌≡◌, ℕ, ◌^◌, ◌<◌, Bool, cond, List, [], ◌++◌, length, take, drop, replicate, refl, sym, ap, ◌∙◌, append_assoc, arith}
use Rattle.std.proofs.lemmas.List.{append_cancel_left, take_at, drop_at}
use Rattle.byteorder.specs.Endian.{big_bytes}
use Rattle.nbd_codec.specs.declared.constants.TheConstants.{OPTION_REPLY_MAGIC, TRANSMISSION_FLAGS, EXPORT_ZEROS, INFO_EXPORT, INFO_BLOCK_SIZE, MINIMUM_BLOCK, PREFERRED_BLOCK, SIMPLE_REPLY_MAGIC}
use Rattle.nbd_codec.specs.declared.option_replies.OptionReply.{OptionReply}
use Rattle.nbd_codec.specs.declared.option_replies.OptionReply.TheVariants.{Ack, Server, Export, BlockSize, ErrUnsup, ErrInvalid, ErrUnknown, ErrTooBig}
use Rattle.nbd_codec.specs.declared.replies.NbdError.{NbdError}
use Rattle.nbd_codec.specs.declared.replies.NbdError.TheVariants.{Io, NoMemory, Invalid, NoSpace}
use Rattle.nbd_codec.specs.Fields.{number_at}
use Rattle.nbd_codec.specs.OptionReply.{type_of, reply_data, option_reply_encoding, export_encoding}
use Rattle.nbd_codec.specs.Reply.{Done, Refused, error_number, encoding}
use Rattle.nbd_codec.specs.Laws.{AreApart, IsReplyOf, NumberedFits, OptionReplyFits, numbered_encoding}
use Rattle.nbd_codec.proofs.BigNumbers.{IsWidth, width4, width8}
use Rattle.nbd_codec.proofs.Basics.{done, done_is, number_again}

-- two numbers and what follows them
pub cut_number : (n : ℕ) (width : IsWidth n) (x y : ℕ) (a b : List ℕ) → x < 256 ^ n → y < 256 ^ n → big_bytes n x ++ a ≡ big_bytes n y ++ b → (x ≡ y) × (a ≡ b)
cut_number n width x y a b p q e =
    let same : done (x, a) ≡ done (y, b) = sym (number_again n width x a p) ∙ ap (number_at n) e ∙ number_again n width y b q in
    let pair = done_is (x, a) (y, b) same in
    (ap (λ (w : ℕ × List ℕ). w.0) pair, ap (λ (w : ℕ × List ℕ). w.1) pair)

-- lists of one length and what follows them
cut_content : (x y a b : List ℕ) → length x ≡ length y → x ++ a ≡ y ++ b → (x ≡ y) × (a ≡ b)
cut_content x y a b len e = (
  sym (take_at x a (length x) refl) ∙ ap (take (length x)) e ∙ take_at y b (length x) (sym len),
  sym (drop_at x a (length x) refl) ∙ ap (drop (length x)) e ∙ drop_at y b (length x) (sym len),
)

-- a number, what is encoded behind it, and what follows
cut_both : (n : ℕ) (width : IsWidth n) (x y : ℕ) (s t a b : List ℕ) → x < 256 ^ n → y < 256 ^ n → (big_bytes n x ++ s) ++ a ≡ (big_bytes n y ++ t) ++ b → (x ≡ y) × (s ++ a ≡ t ++ b)
cut_both n width x y s t a b p q e =
    cut_number n width x y (s ++ a) (t ++ b) p q (sym (append_assoc (big_bytes n x) s a) ∙ e ∙ append_assoc (big_bytes n y) t b)

cut_same : (p s t a b : List ℕ) → (p ++ s) ++ a ≡ (p ++ t) ++ b → s ++ a ≡ t ++ b
cut_same p s t a b e = append_cancel_left p (s ++ a) (t ++ b) (sym (append_assoc p s a) ∙ e ∙ append_assoc p t b)

-- ---- the answer to EXPORT_NAME

pub exports_apart : (no_zeroes : Bool) → AreApart (λ size. export_encoding size no_zeroes) (λ size. size < 2 ^ 64)
unfolding export_encoding
exports_apart no_zeroes x y a b p q e =
    let tail : List ℕ = big_bytes 2 TRANSMISSION_FLAGS ++ cond no_zeroes [] (replicate EXPORT_ZEROS 0) in
    let w = cut_both 8 width8 x y tail tail a b p q e in
    (w.0, append_cancel_left tail a b w.1)

-- ---- replies to options

abbrev IsOneReply : OptionReply → OptionReply → List ℕ → List ℕ → Type 0
IsOneReply r r' a b = (r ≡ r') × (a ≡ b)

-- replies with no number of their own
one_reply : (r r' : OptionReply) (a b : List ℕ) → r' ≡ r → reply_data r ++ a ≡ reply_data r' ++ b → IsOneReply r r' a b
one_reply r r' a b same e =
    (sym same, append_cancel_left (reply_data r) a b (e ∙ ap (λ (x : OptionReply). reply_data x ++ b) same))

is_ack : (r : OptionReply) → type_of r ≡ type_of Ack → r ≡ Ack
is_ack Ack e = refl
is_ack _ e = absurd (omega arith)

is_server : (r : OptionReply) → type_of r ≡ type_of Server → r ≡ Server
is_server Server e = refl
is_server _ e = absurd (omega arith)

is_unsup : (r : OptionReply) → type_of r ≡ type_of ErrUnsup → r ≡ ErrUnsup
is_unsup ErrUnsup e = refl
is_unsup _ e = absurd (omega arith)

is_invalid : (r : OptionReply) → type_of r ≡ type_of ErrInvalid → r ≡ ErrInvalid
is_invalid ErrInvalid e = refl
is_invalid _ e = absurd (omega arith)

is_unknown : (r : OptionReply) → type_of r ≡ type_of ErrUnknown → r ≡ ErrUnknown
is_unknown ErrUnknown e = refl
is_unknown _ e = absurd (omega arith)

is_too_big : (r : OptionReply) → type_of r ≡ type_of ErrTooBig → r ≡ ErrTooBig
is_too_big ErrTooBig e = refl
is_too_big _ e = absurd (omega arith)

abbrev block_front : List ℕ
block_front = big_bytes 2 INFO_BLOCK_SIZE ++ (big_bytes 4 MINIMUM_BLOCK ++ big_bytes 4 PREFERRED_BLOCK)

-- replies with information
two_exports : (x y : ℕ) (a b : List ℕ) → x < 2 ^ 64 → y < 2 ^ 64 → reply_data (Export x) ++ a ≡ reply_data (Export y) ++ b → IsOneReply (Export x) (Export y) a b
unfolding reply_data
two_exports x y a b p q e =
    let front : List ℕ = big_bytes 4 12 ++ big_bytes 2 INFO_EXPORT in
    let tail : List ℕ = big_bytes 2 TRANSMISSION_FLAGS in
    let rest = cut_same front (big_bytes 8 x ++ tail) (big_bytes 8 y ++ tail) a b e in
    let w = cut_both 8 width8 x y tail tail a b p q rest in
    (ap Export w.0, append_cancel_left tail a b w.1)

two_sizes : (x y : ℕ) (a b : List ℕ) → x < 2 ^ 32 → y < 2 ^ 32 → reply_data (BlockSize x) ++ a ≡ reply_data (BlockSize y) ++ b → IsOneReply (BlockSize x) (BlockSize y) a b
unfolding reply_data
two_sizes x y a b p q e =
    let front : List ℕ = big_bytes 4 14 ++ block_front in
    let rest = cut_same front (big_bytes 4 x) (big_bytes 4 y) a b e in
    let w = cut_number 4 width4 x y a b p q rest in
    (ap BlockSize w.0, w.1)

not_both : (x y : ℕ) (a b : List ℕ) → reply_data (Export x) ++ a ≡ reply_data (BlockSize y) ++ b → ⊥
unfolding reply_data
not_both x y a b e =
    let w = cut_both 4 width4 12 14 (big_bytes 2 INFO_EXPORT ++ (big_bytes 8 x ++ big_bytes 2 TRANSMISSION_FLAGS)) (block_front ++ big_bytes 4 y) a b (omega arith) (omega arith) e in
    absurd (omega (arith, w.0))

one_data : (r r' : OptionReply) (a b : List ℕ) → OptionReplyFits r → OptionReplyFits r' → type_of r ≡ type_of r' → reply_data r ++ a ≡ reply_data r' ++ b → IsOneReply r r' a b
one_data Ack r' a b p q t e = one_reply Ack r' a b (is_ack r' (sym t)) e
one_data Server r' a b p q t e = one_reply Server r' a b (is_server r' (sym t)) e
one_data (Export x) (Export y) a b p q t e = two_exports x y a b p q e
one_data (Export x) (BlockSize y) a b p q t e = absurd (not_both x y a b e)
one_data (Export x) _ a b p q t e = absurd (omega arith)
one_data (BlockSize x) (BlockSize y) a b p q t e = two_sizes x y a b p q e
one_data (BlockSize x) (Export y) a b p q t e = absurd (not_both y x b a (sym e))
one_data (BlockSize x) _ a b p q t e = absurd (omega arith)
one_data ErrUnsup r' a b p q t e = one_reply ErrUnsup r' a b (is_unsup r' (sym t)) e
one_data ErrInvalid r' a b p q t e = one_reply ErrInvalid r' a b (is_invalid r' (sym t)) e
one_data ErrUnknown r' a b p q t e = one_reply ErrUnknown r' a b (is_unknown r' (sym t)) e
one_data ErrTooBig r' a b p q t e = one_reply ErrTooBig r' a b (is_too_big r' (sym t)) e

type_fits : (r : OptionReply) → type_of r < 2 ^ 32
type_fits Ack = omega arith
type_fits Server = omega arith
type_fits (Export size) = omega arith
type_fits (BlockSize max_payload) = omega arith
type_fits ErrUnsup = omega arith
type_fits ErrInvalid = omega arith
type_fits ErrUnknown = omega arith
type_fits ErrTooBig = omega arith

pub option_replies_apart : AreApart numbered_encoding NumberedFits
unfolding option_reply_encoding
option_replies_apart x y a b p q e =
    let x2 : List ℕ = big_bytes 4 (type_of x.1) ++ reply_data x.1 in
    let y2 : List ℕ = big_bytes 4 (type_of y.1) ++ reply_data y.1 in
    let behind = cut_same (big_bytes 8 OPTION_REPLY_MAGIC) (big_bytes 4 x.0 ++ x2) (big_bytes 4 y.0 ++ y2) a b e in
    let number = cut_both 4 width4 x.0 y.0 x2 y2 a b p.0 q.0 behind in
    let type = cut_both 4 width4 (type_of x.1) (type_of y.1) (reply_data x.1) (reply_data y.1) a b (type_fits x.1) (type_fits y.1) number.1 in
    let w = one_data x.1 y.1 a b p.1 q.1 type.0 type.1 in
    (ap (λ (n : ℕ). (n, x.1)) number.0 ∙ ap (λ (r : OptionReply). (y.0, r)) w.0, w.1)

-- ---- replies to requests

is_io : (e : NbdError) → error_number e ≡ error_number Io → e ≡ Io
is_io Io h = refl
is_io _ h = absurd (omega arith)

is_no_memory : (e : NbdError) → error_number e ≡ error_number NoMemory → e ≡ NoMemory
is_no_memory NoMemory h = refl
is_no_memory _ h = absurd (omega arith)

is_invalid_error : (e : NbdError) → error_number e ≡ error_number Invalid → e ≡ Invalid
is_invalid_error Invalid h = refl
is_invalid_error _ h = absurd (omega arith)

is_no_space : (e : NbdError) → error_number e ≡ error_number NoSpace → e ≡ NoSpace
is_no_space NoSpace h = refl
is_no_space _ h = absurd (omega arith)

one_error : (x y : NbdError) → error_number x ≡ error_number y → x ≡ y
one_error Io y e = sym (is_io y (sym e))
one_error NoMemory y e = sym (is_no_memory y (sym e))
one_error Invalid y e = sym (is_invalid_error y (sym e))
one_error NoSpace y e = sym (is_no_space y (sym e))

error_fits : (e : NbdError) → (0 < error_number e) × (error_number e < 2 ^ 32)
error_fits Io = (omega arith, omega arith)
error_fits NoMemory = (omega arith, omega arith)
error_fits Invalid = (omega arith, omega arith)
error_fits NoSpace = (omega arith, omega arith)

-- behind the magic: the error's number, the cookie, and the payload
abbrev behind_magic : ℕ → ℕ → List ℕ → List ℕ
behind_magic number cookie payload = big_bytes 4 number ++ (big_bytes 8 cookie ++ payload)

cut_reply : (number number' cookie cookie' : ℕ) (payload payload' a b : List ℕ) → number < 2 ^ 32 → number' < 2 ^ 32 → cookie < 2 ^ 64 → cookie' < 2 ^ 64
    → (big_bytes 4 SIMPLE_REPLY_MAGIC ++ behind_magic number cookie payload) ++ a ≡ (big_bytes 4 SIMPLE_REPLY_MAGIC ++ behind_magic number' cookie' payload') ++ b
    → (number ≡ number') × (cookie ≡ cookie') × (payload ++ a ≡ payload' ++ b)
cut_reply number number' cookie cookie' payload payload' a b p p' q q' e =
    let rest = cut_same (big_bytes 4 SIMPLE_REPLY_MAGIC) (behind_magic number cookie payload) (behind_magic number' cookie' payload') a b e in
    let first = cut_both 4 width4 number number' (big_bytes 8 cookie ++ payload) (big_bytes 8 cookie' ++ payload') a b p p' rest in
    let second = cut_both 8 width8 cookie cookie' payload payload' a b q q' first.1 in
    (first.0, second.0, second.1)

pub replies_apart : (len : ℕ) → AreApart encoding (IsReplyOf len)
replies_apart len (Done cookie payload) (Done cookie' payload') a b p q e =
    let w = cut_reply 0 0 cookie cookie' payload payload' a b (omega arith) (omega arith) p.0 q.0 e in
    let v = cut_content payload payload' a b (p.1 ∙ sym q.1) w.2 in
    (ap (λ (c : ℕ). Done c payload) w.1 ∙ ap (Done cookie') v.0, v.1)
replies_apart len (Done cookie payload) (Refused cookie' error) a b p q e =
    let fits = error_fits error in
    let w = cut_reply 0 (error_number error) cookie cookie' payload [] a b (omega arith) fits.1 p.0 q e in
    absurd (omega (arith, w.0, fits.0))
replies_apart len (Refused cookie error) (Done cookie' payload) a b p q e =
    let fits = error_fits error in
    let w = cut_reply (error_number error) 0 cookie cookie' [] payload a b fits.1 (omega arith) p q.0 e in
    absurd (omega (arith, w.0, fits.0))
replies_apart len (Refused cookie error) (Refused cookie' error') a b p q e =
    let w = cut_reply (error_number error) (error_number error') cookie cookie' [] [] a b (error_fits error).1 (error_fits error').1 p q e in
    (ap (λ (c : ℕ). Refused c error) w.1 ∙ ap (Refused cookie') (one_error error error' w.0), w.2)
