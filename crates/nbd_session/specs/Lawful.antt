-- What a session puts out is lawful: how it stands to all that came in and went out.
use Rattle.std.specs.Prelude.{◌≡◌, ◌⊎◌, ℕ, ◌+◌, Bool, List, [], ◌∷◌, ◌++◌, ⊤, if◌then◌else◌}
use Rattle.nbd_codec.specs.declared.constants.TheConstants.{CLIENT_FLAGS_LEN, MAX_OPTION_DATA, OPTION_HEADER, REQUEST_HEADER}
use Rattle.nbd_codec.specs.Findings.{IsProperPrefix}
use Rattle.nbd_codec.specs.ClientOption.{IsOption, encoding as option_encoding}
use Rattle.nbd_codec.specs.Handshake.{AreFlags, flags_encoding, greeting_encoding}
use Rattle.nbd_codec.specs.Reply.{PlainReply}
use Rattle.nbd_codec.specs.Request.{IsRequest, encoding as request_encoding}
use Rattle.nbd_session.specs.declared.answer.Export.{Export}
use Rattle.nbd_session.specs.declared.phase.Phase.{Phase}
use Rattle.nbd_session.specs.declared.phase.Phase.TheVariants.{Greeted, Negotiating, Skipping, Transmitting, Leaving, Over}
use Rattle.nbd_session.specs.Demand.{Asked}
use Rattle.nbd_session.specs.Negotiation.{Begins, Ends, GoesOn, Haggled, HasLast, IsOver, IsPassing, Negotiation}
use Rattle.nbd_session.specs.Replies.{is_owed}
use Rattle.nbd_session.specs.Session.{State}
use Rattle.nbd_session.specs.Transcript.{EndsSo, Faulty, Left, Talks, TextEnd, Unfinished}

-- what a session was fed, what was handed out of its output, what it has asked of the volume, and the replies to
-- demands that it put out
pub record History : Type 0 where
  pub fed : List ℕ
  pub handed : List ℕ
  pub asked : List Asked
  pub replies : List PlainReply

-- before anything came
abbrev pub nothing : History
nothing = record { fed = []; handed = []; asked = []; replies = [] }

-- and once a piece was fed, which asked this of the volume
abbrev pub fed_and_asked : History → List ℕ → List Asked → History
fed_and_asked history piece asked = record history { fed = history.fed ++ piece; asked = history.asked ++ asked }

-- and once a reply to a demand came
abbrev pub replied : State → History → PlainReply → History
replied session history reply = if is_owed session.phase session.in_flight then record history { replies = history.replies ++ reply ∷ [] } else history

-- and once the output was handed out
abbrev pub handed_out : State → History → History
handed_out session history = record history { handed = history.handed ++ session.output }

-- all that went out, or waits to
abbrev pub sent_by : State → History → List ℕ
sent_by session history = history.handed ++ session.output

-- nothing was asked of the volume, and no reply is owed
pub record IsQuiet (session : State) (history : History) : Type 0 where
  pub asked : history.asked ≡ []
  pub replies : history.replies ≡ []
  pub none_owed : session.in_flight ≡ 0

-- negotiation has begun transmission, and its text came to this so far
pub record Transmission (export : Export) (from to : List ℕ) (asked : List Asked) (replies : List PlainReply) (rest : List ℕ) : Type 0 where
  pub text : List ℕ
  pub out : List ℕ
  pub sent : List ℕ
  pub begun : HasLast export Begins from out text
  pub went : to ≡ out ++ sent
  pub talks : Talks export text sent asked replies rest

-- a transmission whose text has ended so
abbrev pub Ended : State → History → TextEnd → Type 0
Ended session history end =
    (rest : List ℕ) × Transmission session.export history.fed (sent_by session history) history.asked history.replies rest
    × EndsSo session.export.max_payload rest end

-- a session in this phase, its history and the input that it has kept
abbrev pub HasHistoryIn : Phase → State → History → Type 0
HasHistoryIn Greeted session history = (history.fed ≡ session.kept) × (sent_by session history ≡ greeting_encoding) × IsQuiet session history
HasHistoryIn (Negotiating no_zeroes) session history = Haggled session.export no_zeroes history.fed (sent_by session history) session.kept × IsQuiet session history
HasHistoryIn (Skipping no_zeroes option left) session history =
    (bytes : List ℕ) × Haggled session.export no_zeroes history.fed (sent_by session history) (bytes ++ session.kept) × IsPassing option left bytes × IsQuiet session history
HasHistoryIn Transmitting session history = Transmission session.export history.fed (sent_by session history) history.asked history.replies session.kept
HasHistoryIn Leaving session history = Ended session history Left
HasHistoryIn Over session history =
    (Negotiation session.export history.fed (sent_by session history) IsOver × IsQuiet session history)
    ⊎ (Ended session history Left ⊎ Ended session history Faulty)

-- a session that has this history
abbrev pub HasHistory : State → History → Type 0
HasHistory session history = HasHistoryIn session.phase session history

-- what went out is lawful for what came in: at most the greeting; the answers to options; or these, and then the replies
-- to requests and demands, each once
abbrev pub IsLawful : Export → (from to : List ℕ) → List Asked → List PlainReply → Type 0
IsLawful export from to asked replies =
    ((to ≡ greeting_encoding) × (asked ≡ []) × (replies ≡ []))
    ⊎ (((no_zeroes : Bool) × (rest : List ℕ) × Haggled export no_zeroes from to rest × (asked ≡ []) × (replies ≡ []))
    ⊎ (((rest : List ℕ) × HasLast export Ends from to rest × (asked ≡ []) × (replies ≡ []))
    ⊎ ((rest : List ℕ) × Transmission export from to asked replies rest)))

-- where a session that needs more stands: its negotiation goes on, or it has begun transmission, whose text contains the
-- requests that were reached
abbrev pub GoesOnIn : Phase → State → History → Type 0
GoesOnIn Greeted session history = Negotiation session.export history.fed (sent_by session history) GoesOn
GoesOnIn (Negotiating no_zeroes) session history = Negotiation session.export history.fed (sent_by session history) GoesOn
GoesOnIn (Skipping no_zeroes option left) session history = Negotiation session.export history.fed (sent_by session history) GoesOn
GoesOnIn Transmitting session history = Ended session history Unfinished
GoesOnIn Leaving session history = ⊤
GoesOnIn Over session history = ⊤

-- what a session that still takes input keeps of it is no whole thing yet
abbrev pub NeedsMore : Phase → ℕ → List ℕ → Type 0
NeedsMore Greeted max_payload kept = IsProperPrefix flags_encoding AreFlags kept
NeedsMore (Negotiating no_zeroes) max_payload kept = IsProperPrefix option_encoding IsOption kept
NeedsMore (Skipping no_zeroes option left) max_payload kept = kept ≡ []
NeedsMore Transmitting max_payload kept = IsProperPrefix request_encoding (IsRequest max_payload) kept
NeedsMore Leaving max_payload kept = ⊤
NeedsMore Over max_payload kept = ⊤

-- so many bytes are the most that can be no whole thing yet
abbrev pub most_kept : Phase → ℕ → ℕ
most_kept Greeted max_payload = CLIENT_FLAGS_LEN
most_kept (Negotiating no_zeroes) max_payload = OPTION_HEADER + MAX_OPTION_DATA
most_kept (Skipping no_zeroes option left) max_payload = 1
most_kept Transmitting max_payload = REQUEST_HEADER + max_payload
most_kept Leaving max_payload = 0
most_kept Over max_payload = 0
