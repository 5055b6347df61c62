-- The sessions of a chain's clients: what holds of all of them, what they ask, and how their histories go on.
use Rattle.std.specs.Prelude.{◌≡◌, ◌≢◌, ◌⊎◌, ◌==◌, ℕ, None, Option, Some, Bool, true, List, [], ◌∷◌, ◌++◌, All, if◌then◌else◌, position, slice_get}
use Rattle.std.specs.List.{AllPairs, flat_map}
use Rattle.board.specs.Seats.{BoardId}
use Rattle.flush_barrier.specs.declared.session_id.SessionId.{SessionId}
use Rattle.nbd_session.specs.Demand.{Asked, asked_by, owed_by}
use Rattle.nbd_session.specs.Demand as demands
use Rattle.nbd_session.specs.Lawful.{History, IsLawful, HasHistory, nothing, sent_by}
use Rattle.nbd_session.specs.Progress.{is_over}
use Rattle.nbd_session.specs.Replies.{WireReply, seen_with}
use Rattle.nbd_session.specs.Session.{State}
use Rattle.nbd_session.specs.declared.answer.Export.{Export}
use Rattle.nbd_session.specs.declared.demand.Demand.{Demand}
use Rattle.nbd_session.specs.declared.phase.Phase.TheVariants.{Over}
use Rattle.world_model.specs.Event.{Answered, ClientEvent, Done, Failed, Outcome, Sent}
use Rattle.world_model.specs.Event as events
use Rattle.world_model.specs.Requests.{Held}

-- A client: its session, the place of its member in the chain, and whether the session's end was told.
pub record Client : Type 0 where
  pub session : State
  pub at : ℕ
  pub told : Bool

-- The sessions at a board's chain, each with this export, in the order in which they began.
pub record Sessions : Type 0 where
  pub board : BoardId
  pub export : Export
  pub clients : List Client

-- where the client of a session stands
abbrev pub place_of : SessionId → List Client → Option ℕ
place_of id clients = position (λ client. client.session.id.0 == id.0) clients

-- there is a session of this number, and of its client this is so
pub record HasClient (id : SessionId) (clients : List Client) (Is : Client → Type 0) : Type 0 where
  pub place : ℕ
  pub client : Client
  pub there : place_of id clients ≡ Some place
  pub here : slice_get clients place ≡ Some client
  pub is : Is client

-- there is a session of this number, and it takes no more input
abbrev pub IsOver : SessionId → List Client → Type 0
IsOver id clients = HasClient id clients (λ client. is_over client.session.phase ≡ true)

-- the client's session is of this board, and has this export
pub record IsOf (board : BoardId) (export : Export) (client : Client) : Type 0 where
  pub own_board : client.session.board ≡ board
  pub own_export : client.session.export ≡ export

-- what holds of all sessions: no two have one number, and all are of the board, and have the export
pub record AreSessions (s : Sessions) : Type 0 where
  pub apart : AllPairs (λ one other. one.session.id.0 ≢ other.session.id.0) s.clients
  pub own : All (IsOf s.board s.export) s.clients

-- ---- what sessions ask

-- what a session asks, as the model has it
abbrev pub held_under : SessionId → Asked → Held
held_under session (demands.Read cookie offset len) = record { session = session; cookie = cookie; request = events.Read offset len }
held_under session (demands.Write cookie write) = record { session = session; cookie = cookie; request = events.Write write }
held_under session (demands.Fua cookie write) = record { session = session; cookie = cookie; request = events.Fua write }
held_under session (demands.Flush cookie) = record { session = session; cookie = cookie; request = events.Flush }

-- the request of a demand
abbrev pub held_of : Demand → Held
held_of demand = held_under (owed_by demand).session (asked_by demand)

-- ---- how sessions go on

-- A session's history is that of a lawful session; or it was ended by its client or where memory runs out, and what had gone out or waited
-- then is lawful.
abbrev pub Goes : State → History → Type 0
Goes session history =
    HasHistory session history
    ⊎ ((session.phase ≡ Over) × IsLawful session.export history.fed (sent_by session history) history.asked history.replies)

-- each session has its history, and one that hasn't begun has none
pub record AllGo (clients : List Client) (histories : SessionId → History) : Type 0 where
  pub going : All (λ client. Goes client.session (histories client.session.id)) clients
  pub none : (id : SessionId) → place_of id clients ≡ None → histories id ≡ nothing

-- what a client is told, on the wire
abbrev pub on_the_wire : ℕ → Outcome → WireReply
on_the_wire cookie (Done bytes) = seen_with cookie bytes None
on_the_wire cookie (Failed error) = seen_with cookie [] (Some error)

-- the reply that an event shows, if it is one to the session
abbrev pub reply_by : SessionId → ClientEvent → List WireReply
reply_by id (Sent session cookie request) = []
reply_by id (Answered session cookie outcome) = if session.0 == id.0 then on_the_wire cookie outcome ∷ [] else []

-- the replies to the session that the events show, in order
abbrev pub replies_in : SessionId → List ClientEvent → List WireReply
replies_in id events = flat_map (reply_by id) events

-- the history went on by what was fed, handed out, asked and replied
pub record Extends (old new : History) (more_fed more_handed : List ℕ) (more_asked : List Asked) (more_replies : List WireReply) : Type 0 where
  pub fed : new.fed ≡ old.fed ++ more_fed
  pub handed : new.handed ≡ old.handed ++ more_handed
  pub asked : new.asked ≡ old.asked ++ more_asked
  pub replies : new.replies ≡ old.replies ++ more_replies

-- these for this session, and none for another
abbrev pub of_session : {A : Type 0} → SessionId → List A → SessionId → List A
of_session session xs id = if session.0 == id.0 then xs else []

-- none for any session
abbrev pub no_one : {A : Type 0} → SessionId → List A
no_one id = []

-- Whatever histories the sessions had, they go on from them: each by what was fed to it, handed out of it and asked by it, and by the
-- replies that the events show.
abbrev pub GoOn : List Client → List Client → (fed handed : SessionId → List ℕ) → (asked : SessionId → List Asked) → List ClientEvent → Type 0
GoOn old new fed handed asked events =
    (histories : SessionId → History) → AllGo old histories
    → (later : SessionId → History) × AllGo new later
    × ((id : SessionId) → Extends (histories id) (later id) (fed id) (handed id) (asked id) (replies_in id events))
