-- What contracts see of a world, what holds of every one, and when a call of it is of the one volume.
use Rattle.std.specs.Prelude.{◌≡◌, ◌⊎◌, ℕ, ◌<◌, ◌≤◌, ◌==◌, Option, None, Some, List, [], ◌∷◌, All, if◌then◌else◌, length, map}
use Rattle.std.specs.List.{flat_map}
use Rattle.board.specs.Seats.{BoardId}
use Rattle.flush_barrier.specs.declared.session_id.SessionId.{SessionId}
use Rattle.local_store.specs.About.{About}
use Rattle.nbd_session.specs.Demand.{Asked, IsAskedInside, IsUnnumbered, asked_by, owed_by}
use Rattle.nbd_session.specs.declared.demand.Demand.{Demand}
use Rattle.chain_model.specs.Chain.{StandsFor}
use Rattle.chain_model.specs.View.{Joiner, View}
use Rattle.world_model.specs.Event.{Answered, ClientEvent, Sent}
use Rattle.world_model.specs.Life.{all_events}
use Rattle.chain_model.specs.Life.{Era, Happening}
use Rattle.world_model.specs.Machine.{State}
use Rattle.world_model.specs.Requests.{Held}
use Rattle.chain.specs.Chain.{Chained, bytes_of}
use Rattle.chain.specs.Chain as chain
use Rattle.chain.specs.Joining.{IsOfStore}
use Rattle.clients.specs.Clients.{Client, GoOn, Sessions, held_of, held_under, place_of}

-- A world: its chain, the sessions of its clients, for each member, by place, the demands of its sessions that it hasn't taken, and the
-- store of the disk that joins, if one does.
pub record Seen (S : Type 0) : Type 0 where
  pub chain : Chained S
  pub sessions : Sessions
  pub queues : List (List Demand)
  pub joiner : Option S

-- the demand is of the board, has no number yet, and asks what lies in a volume of so many bytes
pub record IsOfVolume (id : BoardId) (size : ℕ) (demand : Demand) : Type 0 where
  pub board : (owed_by demand).board ≡ id
  pub unnumbered : IsUnnumbered demand
  pub inside : IsAskedInside size (asked_by demand)

-- what holds of every world: its sessions are of the chain's board and volume, each at a member; and so are the demands, of each member
pub record IsJoined {S : Type 0} (w : Seen S) : Type 0 where
  pub board : w.sessions.board ≡ w.chain.id
  pub size : w.sessions.export.size ≡ bytes_of w.chain
  pub payload : w.sessions.export.max_payload ≡ w.chain.geometry.max_payload
  pub area : w.sessions.export.area ≡ w.chain.geometry.area
  pub places : All (λ client. client.at < length w.chain.members) w.sessions.clients
  pub queues : length w.queues ≡ length w.chain.members
  pub demands : All (All (IsOfVolume w.chain.id (bytes_of w.chain))) w.queues

-- Each session has its place in the model, where no request waits: one counts as sent once its session asks it, and is taken up then.
pub record AreTakenUp (clients : List Client) (kept : List (List Held)) : Type 0 where
  pub many : length kept ≡ length clients
  pub none : All (λ held. held ≡ []) kept

-- who joins has this store; or nobody does
abbrev pub JoinsBy : {S : Type 0} → (S → About) → (S → List ℕ → Type 0) → Option S → Option Joiner → Type 0
JoinsBy about keeps None joiner = joiner ≡ None
JoinsBy about keeps (Some store) joiner = IsOfStore about keeps store joiner

-- The world is shown so: its chain, the demands that wait for each member, a place for each session, and who joins.
pub record Shows {S : Type 0} (about : S → About) (keeps : S → List ℕ → Type 0) (may_leave_now : S → List ℕ → Type 0) (w : Seen S) (v : View) : Type 0 where
  pub chain : chain.Shows about keeps may_leave_now w.chain v
  pub demands : map (λ m. m.demands) v.members ≡ map (map held_of) w.queues
  pub kept : AreTakenUp w.sessions.clients v.kept
  pub joins : JoinsBy about keeps w.joiner v.joiner

-- nothing waits for a member of it, it has no sessions, and nobody joins it
pub record HasNoClients (v : View) : Type 0 where
  pub none_wait : All (λ m. m.demands ≡ []) v.members
  pub none_kept : v.kept ≡ []
  pub alone : v.joiner ≡ None

-- some things happen, one after another, and clients see these events of them all
pub record Goes (size : ℕ) (v w : View) (events : List ClientEvent) : Type 0 where
  pub happenings : List Happening
  pub each : List (List ClientEvent)
  pub era : Era size v happenings w each
  pub all : all_events each ≡ events

-- ---- whose requests are sent

-- the request that an event shows as sent, if it is one of the session
abbrev pub sent_by : SessionId → ClientEvent → List Held
sent_by id (Sent session cookie request) = if session.0 == id.0 then record { session = session; cookie = cookie; request = request } ∷ [] else []
sent_by id (Answered session cookie outcome) = []

-- the requests of the session that the events show as sent, in order
abbrev pub sent_in : SessionId → List ClientEvent → List Held
sent_in id events = flat_map (sent_by id) events

-- Each session asks what its client sent, in order, each once, and nothing else.
abbrev pub AskWhatWasSent : (asked : SessionId → List Asked) → List ClientEvent → Type 0
AskWhatWasSent asked events = (id : SessionId) → sent_in id events ≡ map (held_under id) (asked id)

-- each session that was there keeps its place, others come behind, and the export is the same
pub record Remain (old new : Sessions) : Type 0 where
  pub places : (id : SessionId) (place : ℕ) → place_of id old.clients ≡ Some place → place_of id new.clients ≡ Some place
  pub came : (id : SessionId) (place : ℕ) → place_of id new.clients ≡ Some place → (place_of id old.clients ≡ Some place) ⊎ ((place_of id old.clients ≡ None) × (length old.clients ≤ place))
  pub many : length old.clients ≤ length new.clients
  pub export : new.export ≡ old.export

-- ---- what a call does

-- What happens in a world while sessions are fed this and hand this out: clients see these events, each session's history goes on
-- by what it was fed, handed out and asked, and by the replies that the events show, and it asks what its client sent.
pub record HappensSo {S : Type 0} (about : S → About) (keeps : S → List ℕ → Type 0) (may_leave_now : S → List ℕ → Type 0) (old new : Seen S) (fed handed : SessionId → List ℕ) (v : View) : Type 0 where
  pub w : View
  pub events : List ClientEvent
  pub asked : SessionId → List Asked
  pub shows : Shows about keeps may_leave_now new w
  pub goes : Goes (bytes_of old.chain) v w events
  pub go_on : GoOn old.sessions.clients new.sessions.clients fed handed asked events
  pub sent : AskWhatWasSent asked events
  pub remain : Remain old.sessions new.sessions

-- Whatever state of the one volume the world stood for, what the call did can happen in such a world.
abbrev pub IsOfOneVolume : {S : Type 0} → (S → About) → (S → List ℕ → Type 0) → (S → List ℕ → Type 0) → (fed handed : SessionId → List ℕ) → Seen S → Seen S → Type 0
IsOfOneVolume about keeps may_leave_now fed handed old new =
    (v : View) (s : State) → Shows about keeps may_leave_now old v → StandsFor (bytes_of old.chain) v s → HappensSo about keeps may_leave_now old new fed handed v
