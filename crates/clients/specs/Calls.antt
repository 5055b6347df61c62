-- What each call does to the sessions, and what that is in the model of the one volume.
use Rattle.std.specs.Prelude.{◌≡◌, ◌⊎◌, ◌≤◌, ◌==◌, ◌+◌, ◌-◌, ℕ, Bool, true, false, not, ◌&&◌, ◌||◌, nat_lt, None, Option, Some, List, [], ◌∷◌, ◌++◌, if◌then◌else◌, length, map, slice_get, slice_set}
use Rattle.board.specs.Seats.{BoardId}
use Rattle.flush_barrier.specs.Reply.{GivenReply}
use Rattle.flush_barrier.specs.declared.session_id.SessionId.{SessionId}
use Rattle.nbd_codec.specs.declared.constants.TheConstants.{MAX_IN_FLIGHT as most}
use Rattle.nbd_session.specs.Begun.{greeted}
use Rattle.nbd_session.specs.Demand.{IsAskedInside, IsUnnumbered, asked_by, owed_by}
use Rattle.nbd_session.specs.Progress.{is_over}
use Rattle.nbd_session.specs.Replies.{answered, is_owed, reply_seen}
use Rattle.nbd_session.specs.Session.{Feeds}
use Rattle.nbd_session.specs.declared.demand.Demand.{Demand}
use Rattle.nbd_session.specs.declared.phase.Phase.{Phase}
use Rattle.nbd_session.specs.declared.phase.Phase.TheVariants.{Greeted, Negotiating, Skipping, Transmitting, Leaving, Over}
use Rattle.world_model.specs.Chain.{ArePutOut, reply_event}
use Rattle.world_model.specs.Event.{ClientEvent}
use Rattle.clients.specs.Clients.{Client, GoOn, HasClient, IsOver, Sessions, no_one, place_of}
use Rattle.clients.specs.declared.delivered.Delivered.{Delivered}
use Rattle.clients.specs.declared.delivered.Delivered.TheVariants.{ToSession, Dropped, OutOfMemory}
use Rattle.clients.specs.declared.output.Output.{Output}

-- the client of this session became another, and nothing else changed
pub record Changes (id : SessionId) (old new : Sessions) (Did : Client → Client → Type 0) : Type 0 where
  pub place : ℕ
  pub before : Client
  pub after : Client
  pub there : place_of id old.clients ≡ Some place
  pub here : slice_get old.clients place ≡ Some before
  pub did : Did before after
  pub are : new ≡ record old { clients = slice_set old.clients place after }

-- as many clients, each of its session and at its member's place
pub record AreAtPlaces (old new : Sessions) : Type 0 where
  pub board : new.board ≡ old.board
  pub export : new.export ≡ old.export
  pub ids : map (λ c. c.session.id) new.clients ≡ map (λ c. c.session.id) old.clients
  pub places : map (λ c. c.at) new.clients ≡ map (λ c. c.at) old.clients

-- the client of the same session, at the same place, board and export
pub record IsSameClient (before after : Client) : Type 0 where
  pub id : after.session.id ≡ before.session.id
  pub board : after.session.board ≡ before.session.board
  pub export : after.session.export ≡ before.session.export
  pub at : after.at ≡ before.at

-- a session that takes no more input takes none from then on
abbrev pub StayOver : List Client → List Client → Type 0
StayOver old new = (id : SessionId) → IsOver id old → IsOver id new

-- ---- a session begins

-- a session with a new number begins behind the others, and its greeting waits to go out
pub record Begins (id : SessionId) (at : ℕ) (old new : Sessions) : Type 0 where
  pub new_number : place_of id old.clients ≡ None
  pub are : new ≡ record old { clients = old.clients ++ record { session = greeted old.board id old.export; at = at; told = false } ∷ [] }

-- ---- bytes come in

-- the session, which takes input, takes the piece, and makes these demands; each is in flight then, and no more than may be
pub record TakesPiece (piece : List ℕ) (at : ℕ) (demands : List Demand) (before after : Client) : Type 0 where
  pub takes_input : is_over before.session.phase ≡ false
  pub member : before.at ≡ at
  pub feeds : Feeds before.session piece after.session (map asked_by demands)
  pub grows : after.session.in_flight ≡ before.session.in_flight + length demands
  pub limit : after.session.in_flight ≤ most
  pub are : after ≡ record before { session = after.session }

-- the demand is of this session of the board, has no number yet, and asks what lies in the volume
pub record IsDemandOf (id : SessionId) (board : BoardId) (size : ℕ) (demand : Demand) : Type 0 where
  pub own_session : (owed_by demand).session ≡ id
  pub own_board : (owed_by demand).board ≡ board
  pub unnumbered : IsUnnumbered demand
  pub inside : IsAskedInside size (asked_by demand)

-- ---- input ends

-- the client once its session has ended: what waits goes out, and nothing else
abbrev pub ended : Client → Client
ended client = record client { session = record client.session { phase = Over; kept = [] } }

-- the session, which takes input, ends
pub record EndsInput (before after : Client) : Type 0 where
  pub takes_input : is_over before.session.phase ≡ false
  pub are : after ≡ ended before

abbrev pub Ends : SessionId → Sessions → Sessions → Type 0
Ends id old new = Changes id old new EndsInput

-- ---- a member is gone

-- the client without the member at the place: one that was at it takes no more input, and those at later places move up
abbrev pub without : ℕ → Client → Client
without place client =
    if client.at == place
    then record (if is_over client.session.phase then client else ended client) { at = 0 }
    else (if nat_lt place client.at then record client { at = client.at - 1 } else client)

-- ---- replies come

-- nothing more goes out but what waits
abbrev pub is_closed : Phase → Bool
is_closed Greeted = false
is_closed (Negotiating no_zeroes) = false
is_closed (Skipping no_zeroes option left) = false
is_closed Transmitting = false
is_closed Leaving = false
is_closed Over = true

-- The session takes the reply, which goes out behind what waits, if the session owes one; or it has ended, and nothing goes out; or it has
-- no memory for it, and ends without it.
abbrev pub TakesReply : GivenReply → Delivered → Client → Client → List ClientEvent → Type 0
TakesReply reply ToSession before after events =
    (is_closed before.session.phase ≡ false)
    × (after ≡ record before { session = answered before.session (reply_seen reply) })
    × (events ≡ (if is_owed before.session.phase before.session.in_flight then reply_event reply ∷ [] else []))
TakesReply reply Dropped before after events =
    (is_closed before.session.phase ≡ true)
    × (after ≡ record before { session = record before.session { in_flight = before.session.in_flight - 1 } })
    × (events ≡ [])
TakesReply reply OutOfMemory before after events = (is_closed before.session.phase ≡ false) × (after ≡ ended before) × (events ≡ [])

-- there is no such session: the reply is dropped
pub record IsDropped (reply : GivenReply) (came : Delivered) (old new : Sessions) (events : List ClientEvent) : Type 0 where
  pub dropped : came ≡ Dropped
  pub none : place_of reply.session old.clients ≡ None
  pub same : new ≡ old
  pub unseen : events ≡ []

-- The reply comes to its session, if it is there, and clients see these events.
pub record Delivers (reply : GivenReply) (came : Delivered) (old new : Sessions) (events : List ClientEvent) : Type 0 where
  pub did : Changes reply.session old new (λ before after. TakesReply reply came before after events) ⊎ IsDropped reply came old new events
  pub put_out : ArePutOut (reply ∷ []) events
  pub over : StayOver old.clients new.clients
  pub lawful : GoOn old.clients new.clients no_one no_one no_one events
  pub places : AreAtPlaces old new

-- ---- what waits goes out

-- the client's session has ended, and that is to be told
abbrev pub closes : Client → Bool
closes client = is_closed client.session.phase && not client.told

-- something waits for the client: bytes, or that the session has ended
abbrev pub has_waiting : Client → Bool
has_waiting client = nat_lt 0 (length client.session.output) || closes client

-- the output is what waits for the client, which has it then
pub record IsHanded (output : Output) (before after : Client) : Type 0 where
  pub waits : has_waiting before ≡ true
  pub session : output.session ≡ before.session.id
  pub bytes : output.bytes.items ≡ before.session.output
  pub closed : output.closed ≡ closes before
  pub are : after ≡ record before { session = record before.session { output = [] }; told = before.told || closes before }

-- nothing waits for the client, which stays as it was
pub record HasNothing (before after : Client) : Type 0 where
  pub none : has_waiting before ≡ false
  pub same : after ≡ before

-- what waits for the session's client goes out; where nothing waits, or there is no such session, nothing changed
abbrev pub PutsOut : SessionId → Sessions → Option Output → Sessions → Type 0
PutsOut id old None new = (HasClient id old.clients (λ client. has_waiting client ≡ true) → ⊥) × (new ≡ old)
PutsOut id old (Some output) new = Changes id old new (IsHanded output)

-- the bytes that went out
abbrev pub bytes_out : Option Output → List ℕ
bytes_out None = []
bytes_out (Some output) = output.bytes.items
