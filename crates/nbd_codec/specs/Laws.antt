-- What holds of all encodings of a kind.
use Rattle.std.specs.Prelude.{◌≡◌, ◌≢◌, ℕ, ◌<◌, ◌≤◌, ◌^◌, List, [], ◌++◌, length}
use Rattle.nbd_codec.specs.declared.findings.Reading.{Reading}
use Rattle.nbd_codec.specs.declared.findings.Fault.{Fault}
use Rattle.nbd_codec.specs.declared.findings.Reading.TheVariants as reading
use Rattle.nbd_codec.specs.declared.findings.Reading.TheVariants.{Value, More}
use Rattle.nbd_codec.specs.declared.option_replies.OptionReply.{OptionReply}
use Rattle.nbd_codec.specs.declared.option_replies.OptionReply.TheVariants as replies
use Rattle.nbd_codec.specs.Findings.{AreBytes, IsImpossible, IsProperPrefix, Takes}
use Rattle.nbd_codec.specs.OptionReply.{option_reply_encoding}
use Rattle.nbd_codec.specs.Reply.{PlainReply, Done, Refused}

-- no encoding is another's or begins it: texts that are equal begin with one value, and go on alike
abbrev pub AreApart : {A : Type 0} → (A → List ℕ) → (A → Type 0) → Type 0
AreApart {A = A} encoding Fits = (x y : A) (a b : List ℕ) → Fits x → Fits y → encoding x ++ a ≡ encoding y ++ b → (x ≡ y) × (a ≡ b)

-- what was found at the front of the bytes is found whatever follows them
abbrev pub IsKept : {A : Type 0} → (List ℕ → Reading A) → Type 0
IsKept find = (bytes more : List ℕ) → AreBytes bytes → find bytes ≢ More → find (bytes ++ more) ≡ find bytes

-- where nothing came, more is needed
abbrev pub NeedsSome : {A : Type 0} → (List ℕ → Reading A) → Type 0
NeedsSome find = find [] ≡ More

-- no encoding has more bytes
abbrev pub IsAtMost : {A : Type 0} → ℕ → (A → List ℕ) → (A → Type 0) → Type 0
IsAtMost {A = A} len encoding Fits = (x : A) → Fits x → length (encoding x) ≤ len

-- no encoding has fewer bytes
abbrev pub IsAtLeast : {A : Type 0} → ℕ → (A → List ℕ) → (A → Type 0) → Type 0
IsAtLeast {A = A} len encoding Fits = (x : A) → Fits x → len ≤ length (encoding x)

-- what is found is what is encoded at the front of the bytes: a value, a proper prefix of one, or what no value begins with
pub record IsEncoded {A : Type 0} (encoding : A → List ℕ) (Fits : A → Type 0) (find : List ℕ → Reading A) : Type 0 where
  pub value : (bytes : List ℕ) (x : A) (taken : ℕ) → AreBytes bytes → find bytes ≡ Value x taken → Takes encoding Fits bytes x taken
  pub more : (bytes : List ℕ) → AreBytes bytes → find bytes ≡ More → IsProperPrefix encoding Fits bytes
  pub fault : (bytes : List ℕ) (fault : Fault) → AreBytes bytes → find bytes ≡ reading.Fault fault → IsImpossible encoding Fits bytes

-- the numbers of a reply to an option fit their bytes
abbrev pub OptionReplyFits : OptionReply → Type 0
OptionReplyFits replies.Ack = Unit {0}
OptionReplyFits replies.Server = Unit {0}
OptionReplyFits (replies.Export size) = size < 2 ^ 64
OptionReplyFits (replies.BlockSize max_payload) = max_payload < 2 ^ 32
OptionReplyFits replies.ErrUnsup = Unit {0}
OptionReplyFits replies.ErrInvalid = Unit {0}
OptionReplyFits replies.ErrUnknown = Unit {0}
OptionReplyFits replies.ErrTooBig = Unit {0}

-- a reply to the option of that number
abbrev pub numbered_encoding : ℕ × OptionReply → List ℕ
numbered_encoding reply = option_reply_encoding reply.0 reply.1

abbrev pub NumberedFits : ℕ × OptionReply → Type 0
NumberedFits reply = (reply.0 < 2 ^ 32) × OptionReplyFits reply.1

-- a reply to a request that asks for so many bytes: none are asked for but by a READ
abbrev pub IsReplyOf : ℕ → PlainReply → Type 0
IsReplyOf len (Done cookie payload) = (cookie < 2 ^ 64) × (length payload ≡ len)
IsReplyOf len (Refused cookie error) = cookie < 2 ^ 64
