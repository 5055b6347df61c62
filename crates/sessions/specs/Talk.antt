-- What contracts see of a talk with a client, and what its client took.
use Rattle.std.specs.Prelude.{◌≡◌, ◌⊎◌, ◌++◌, ℕ, Bool, true, false, List, [], ◌∷◌, Option, Some, map, take}
use Rattle.board.specs.Seats.{BoardId}
use Rattle.flush_barrier.specs.Reply.{GivenReply}
use Rattle.flush_barrier.specs.declared.session_id.SessionId.{SessionId}
use Rattle.nbd_session.specs.Begun.{greeted}
use Rattle.nbd_session.specs.Demand.{asked_by}
use Rattle.nbd_session.specs.Lawful.{HasHistory, History, IsLawful, sent_by}
use Rattle.nbd_session.specs.Progress.{is_over}
use Rattle.nbd_session.specs.Replies.{answered, reply_seen}
use Rattle.nbd_session.specs.Session.{Feeds, State}
use Rattle.nbd_session.specs.declared.answer.Export.{Export}
use Rattle.nbd_session.specs.declared.demand.Demand.{Demand}
use Rattle.nbd_session.specs.declared.phase.Phase.TheVariants.{Over}

-- the session, all bytes that its client took, and whether a write to the client failed
pub record Talking : Type 0 where
  pub session : State
  pub took : List ℕ
  pub failed : Bool

-- ---- what holds of every talk

-- A session's history is that of a lawful session; or it was ended by its client or where memory runs out, and what had gone out or waited
-- then is lawful.
abbrev pub Goes : State → History → Type 0
Goes session history =
    HasHistory session history
    ⊎ ((session.phase ≡ Over) × IsLawful session.export history.fed (sent_by session history) history.asked history.replies)

-- the client took what was handed out; where a write failed, the beginning of it
abbrev pub HasTaken : Bool → List ℕ → List ℕ → Type 0
HasTaken false handed took = took ≡ handed
HasTaken true handed took = (n : ℕ) × (took ≡ take n handed)

-- the session has this history, and the client took what was handed out
pub record IsHistoryOf (talk : Talking) (history : History) : Type 0 where
  pub goes : Goes talk.session history
  pub taken : HasTaken talk.failed history.handed talk.took

-- the session has ended, and nothing waits to go out
pub record IsCutOff (session : State) : Type 0 where
  pub over : session.phase ≡ Over
  pub none_waits : session.output ≡ []

-- What holds of every talk: its session is of the volume's board, and exports all of the volume; it has a history; and once a write failed,
-- nothing more goes out.
pub record IsTalk (board : Option BoardId) (size : ℕ) (talk : Talking) : Type 0 where
  pub of_board : board ≡ Some talk.session.board
  pub of_size : talk.session.export.size ≡ size
  pub history : History
  pub has : IsHistoryOf talk history
  pub cut_off : talk.failed ≡ true → IsCutOff talk.session

-- The client of a volume of this size took the beginning of what is lawful for a text of its own and some replies.
pub record IsLawfulOutput (size : ℕ) (took : List ℕ) : Type 0 where
  pub export : Export
  pub of_size : export.size ≡ size
  pub history : History
  pub rest : List ℕ
  pub lawful : IsLawful export history.fed (took ++ rest) history.asked history.replies

-- ---- what its calls make of it

-- the greeting waits to go out
abbrev pub begun : BoardId → SessionId → Export → Talking
begun board id export = record { session = greeted board id export; took = []; failed = false }

-- the session has ended: what waits may still go out, and nothing else
abbrev pub given_up : Talking → Talking
given_up talk = record talk { session = record talk.session { phase = Over; kept = [] } }

-- the client took what waited
abbrev pub handed : Talking → Talking
handed talk = record talk { session = record talk.session { output = [] }; took = talk.took ++ talk.session.output }

-- the client took so many bytes of what waited, and then a write failed
abbrev pub broken_off : ℕ → Talking → Talking
broken_off n talk = record {
  session = record talk.session { phase = Over; kept = []; output = [] };
  took = talk.took ++ take n talk.session.output;
  failed = true;
}

-- ---- what it asks

-- the session took the piece, and made these demands
pub record HasFed (piece : List ℕ) (demands : List Demand) (old new : Talking) : Type 0 where
  pub feeds : Feeds old.session piece new.session (map asked_by demands)
  pub took : new.took ≡ old.took
  pub failed : new.failed ≡ old.failed

-- it took nothing and made no demand: it takes no more input, or memory ran out, and it was given up
pub record HasFedNothing (demands : List Demand) (old new : Talking) : Type 0 where
  pub none : demands ≡ []
  pub plea : ((is_over old.session.phase ≡ true) × (new ≡ old)) ⊎ (new ≡ given_up old)

-- what waited went out, all of it or as far as a write got
abbrev pub PutsOut : Talking → Talking → Type 0
PutsOut old new = (new ≡ handed old) ⊎ ((n : ℕ) × (new ≡ broken_off n old))

-- The piece was fed if it could be, and made these demands; and what waited then went out.
pub record TakesIn (piece : List ℕ) (demands : List Demand) (old new : Talking) : Type 0 where
  pub between : Talking
  pub fed : HasFed piece demands old between ⊎ HasFedNothing demands old between
  pub out : PutsOut between new

-- ---- what it is answered

-- the reply stands behind what waits; or memory ran out for it, and the session was given up
abbrev pub HasAnswered : GivenReply → Talking → Talking → Type 0
HasAnswered reply old new = (new ≡ record old { session = answered old.session (reply_seen reply) }) ⊎ (new ≡ given_up old)

-- so each of them, in order
abbrev pub HasAnsweredAll : List GivenReply → Talking → Talking → Type 0
HasAnsweredAll [] old new = new ≡ old
HasAnsweredAll (reply ∷ replies) old new = (between : Talking) × HasAnswered reply old between × HasAnsweredAll replies between new
