-- Negotiation: how the whole text from a client, the whole text to it and its end belong together.
use Rattle.std.specs.Prelude.{◌≡◌, ◌⊎◌, ℕ, ◌+◌, ◌<◌, ◌==◌, Bool, List, ◌++◌, length, All, if◌then◌else◌}
use Rattle.std.specs.List.{flat_map}
use Rattle.nbd_codec.specs.ClientOption.{PlainInfo, Asks, Malformed, PlainOption, ExportName, Abort, Lists, Info, Go, Other, Oversized, IsOption, encoding}
use Rattle.nbd_codec.specs.Findings.{IsImpossible, IsProperPrefix}
use Rattle.nbd_codec.specs.Handshake.{AreFlags, flags_encoding, greeting_encoding}
use Rattle.nbd_session.specs.declared.answer.Export.{Export}
use Rattle.nbd_session.specs.Answers.{answer_to}

-- what an option does: negotiation goes on, the session is over, or transmission begins
pub data Effect : Type 0 where
  Haggles : Effect
  Ends : Effect
  Begins : Effect

-- transmission begins with GO where it names the one export
abbrev pub effect_of_go : PlainInfo → Effect
effect_of_go (Asks name types) = if length name == 0 then Begins else Haggles
effect_of_go (Malformed bytes) = Haggles

abbrev pub effect_of : PlainOption → Effect
effect_of ExportName = Begins
effect_of (Abort bytes) = Ends
effect_of (Lists bytes) = Haggles
effect_of (Info info) = Haggles
effect_of (Go info) = effect_of_go info
effect_of (Other number bytes) = Haggles
effect_of (Oversized number len) = Haggles

-- an option, and the data behind it that is passed over
pub record Bid : Type 0 where
  pub option : PlainOption
  pub passed : List ℕ

-- data is passed over behind an option that is too long, all of it, and behind no other
abbrev pub passed_len : PlainOption → ℕ
passed_len ExportName = 0
passed_len (Abort bytes) = 0
passed_len (Lists bytes) = 0
passed_len (Info info) = 0
passed_len (Go info) = 0
passed_len (Other number bytes) = 0
passed_len (Oversized number len) = len

-- an option that is whole, and does this
pub record IsBid (effect : Effect) (bid : Bid) : Type 0 where
  pub option : IsOption bid.option
  pub passed : length bid.passed ≡ passed_len bid.option
  pub does : effect_of bid.option ≡ effect

-- the option's encoding, and what is passed over
abbrev pub bid_encoding : Bid → List ℕ
bid_encoding bid = encoding bid.option ++ bid.passed

-- the answer to it
abbrev pub bid_answer : Export → Bool → Bid → List ℕ
bid_answer export no_zeroes bid = answer_to export no_zeroes bid.option

-- client flags, options after which negotiation went on, and this rest came in; the greeting and their answers went out
pub record Haggled (export : Export) (no_zeroes : Bool) (from to rest : List ℕ) : Type 0 where
  pub options : List Bid
  pub each : All (IsBid Haggles) options
  pub came : from ≡ flags_encoding (record { no_zeroes = no_zeroes }) ++ (flat_map bid_encoding options ++ rest)
  pub went : to ≡ greeting_encoding ++ flat_map (bid_answer export no_zeroes) options

-- behind such options came one that does this, and then this rest; its answer went out last
pub record HasLast (export : Export) (effect : Effect) (from to rest : List ℕ) : Type 0 where
  pub no_zeroes : Bool
  pub out : List ℕ
  pub last : Bid
  pub is_bid : IsBid effect last
  pub before : Haggled export no_zeroes from out (bid_encoding last ++ rest)
  pub went : to ≡ out ++ bid_answer export no_zeroes last

-- an option that is too long, with less of its data than it says
pub record IsPassing (option left : ℕ) (bytes : List ℕ) : Type 0 where
  pub len : ℕ
  pub passed : List ℕ
  pub is_option : IsOption (Oversized option len)
  pub whole : bytes ≡ encoding (Oversized option len) ++ passed
  pub more : length passed + left ≡ len
  pub some : 0 < left

-- what is no whole option yet
abbrev pub IsUnfinished : List ℕ → Type 0
IsUnfinished rest = IsProperPrefix encoding IsOption rest ⊎ ((option : ℕ) × (left : ℕ) × IsPassing option left rest)

-- how a negotiation ends, so far
pub data End : Type 0 where
  GoesOn : End
  IsOver : End
  Transmits : (rest : List ℕ) → End

-- it goes on while client flags or an option aren't whole; it is over where none can come, and after an option that
-- ends it; transmission begins after an option that begins it
abbrev pub Negotiation : Export → (from to : List ℕ) → End → Type 0
Negotiation export from to GoesOn =
    ((to ≡ greeting_encoding) × IsProperPrefix flags_encoding AreFlags from)
    ⊎ ((no_zeroes : Bool) × (rest : List ℕ) × Haggled export no_zeroes from to rest × IsUnfinished rest)
Negotiation export from to IsOver =
    ((to ≡ greeting_encoding) × IsImpossible flags_encoding AreFlags from)
    ⊎ (((no_zeroes : Bool) × (rest : List ℕ) × Haggled export no_zeroes from to rest × IsImpossible encoding IsOption rest)
    ⊎ ((rest : List ℕ) × HasLast export Ends from to rest))
Negotiation export from to (Transmits rest) = HasLast export Begins from to rest
