-- What holds of each session: however its client's text is cut, and of all that it puts out.
use Rattle.std.specs.Prelude.{◌≡◌, ◌<◌, ◌^◌, false, List, [], ◌++◌, ℕ, length}
use Rattle.nbd_codec.specs.Findings.{AreBytes}
use Rattle.nbd_codec.specs.declared.constants.TheConstants.{MAX_IN_FLIGHT}
use Rattle.nbd_session.specs.Demand.{Asked}
use Rattle.nbd_session.specs.Lawful.{GoesOnIn, History, IsLawful, NeedsMore, HasHistory, fed_and_asked, handed_out, most_kept, replied, sent_by}
use Rattle.nbd_codec.specs.Reply.{PlainReply}
use Rattle.nbd_session.specs.Replies.{answered}
use Rattle.nbd_session.specs.Session.{Feeds, State}
use Rattle.nbd_session.specs.Progress.{is_over}

-- a piece leaves the session in one way, and asks the same of the volume
abbrev pub FeedsInOneWay : Type 0
FeedsInOneWay = (old : State) (piece : List ℕ) (one other : State) (asked asked_too : List Asked)
    → Feeds old piece one asked → Feeds old piece other asked_too
    → (one ≡ other) × (asked ≡ asked_too)

-- two pieces, one after the other, leave the session and ask of the volume what the two joined do, unless the first
-- ends the session
abbrev pub CuttingsAgree : Type 0
CuttingsAgree = (old mid two one : State) (first second : List ℕ) (asked_first asked_second asked : List Asked)
    → AreBytes (old.kept ++ first) → old.export.max_payload < 2 ^ 32
    → Feeds old first mid asked_first → is_over mid.phase ≡ false → Feeds mid second two asked_second
    → Feeds old (first ++ second) one asked
    → (one ≡ two) × (asked ≡ asked_first ++ asked_second)

-- a piece leaves the session with its history, and this piece and what it asks
abbrev pub FeedsLawfully : Type 0
FeedsLawfully = (old new : State) (history : History) (piece : List ℕ) (asked : List Asked)
    → AreBytes (old.kept ++ piece) → old.export.max_payload < 2 ^ 32 → is_over old.phase ≡ false
    → HasHistory old history → Feeds old piece new asked → HasHistory new (fed_and_asked history piece asked)

-- a reply to a demand leaves the session with its history, and this reply where one is owed
abbrev pub RepliesAreLawful : Type 0
RepliesAreLawful = (session : State) (history : History) (reply : PlainReply)
    → HasHistory session history → HasHistory (answered session reply) (replied session history reply)

-- output that is handed out leaves the session with its history, and this output
abbrev pub OutputIsLawful : Type 0
OutputIsLawful = (session : State) (history : History)
    → HasHistory session history → HasHistory (record session { output = [] }) (handed_out session history)

-- whoever has this history put out what is lawful
abbrev pub HistoriesAreLawful : Type 0
HistoriesAreLawful = (session : State) (history : History)
    → HasHistory session history → IsLawful session.export history.fed (sent_by session history) history.asked history.replies

-- a piece after which the session still takes input leaves less than a whole thing of it
abbrev pub FeedsTakeAll : Type 0
FeedsTakeAll = (old new : State) (piece : List ℕ) (asked : List Asked)
    → AreBytes (old.kept ++ piece) → old.export.max_payload < 2 ^ 32 → Feeds old piece new asked
    → is_over new.phase ≡ false → new.in_flight < MAX_IN_FLIGHT
    → NeedsMore new.phase new.export.max_payload new.kept × (length new.kept < most_kept new.phase new.export.max_payload)

-- a session that needs more is in the middle of its negotiation, or of its transcript
abbrev pub NeedyGoOn : Type 0
NeedyGoOn = (session : State) (history : History)
    → HasHistory session history → NeedsMore session.phase session.export.max_payload session.kept → GoesOnIn session.phase session history
