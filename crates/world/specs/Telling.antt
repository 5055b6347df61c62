-- How replies come to their sessions.
use Rattle.std.specs.Prelude.{◌≡◌, ℕ, Bool, true, false, Option, None, Some, Result, Ok, Err, IfSome, List, [], ◌∷◌, ◌++◌, ◌||◌}
use Rattle.std.specs.List.{flat_map}
use Rattle.std.specs.Option.{option_to_list}
use Rattle.flush_barrier.specs.Reply.{GivenReply}
use Rattle.flush_barrier.specs.declared.session_id.SessionId.{SessionId}
use Rattle.world_model.specs.Event.{ClientEvent}
use Rattle.chain.specs.Chain.{Chained}
use Rattle.clients.specs.Calls.{AreAtPlaces, Delivers, PutsOut, StayOver, bytes_out}
use Rattle.clients.specs.Clients.{GoOn, Sessions, no_one, of_session}
use Rattle.clients.specs.declared.delivered.Delivered.{Delivered}
use Rattle.clients.specs.declared.delivered.Delivered.TheVariants.{ToSession, Dropped, OutOfMemory}
use Rattle.clients.specs.declared.output.Output.{Output}
use Rattle.world.specs.World.{Seen}
use Rattle.world.specs.declared.told.Told.{Told}
use Rattle.world.specs.declared.told.Told.TheVariants.{Out, Lost, Withheld}

-- what waits for the session is handed out, and so it is in its history
pub record IsHandedOut (id : SessionId) (given : Option Output) (old new : Sessions) : Type 0 where
  pub out : PutsOut id old given new
  pub own : IfSome given (λ o. o.session.0 ≡ id.0)
  pub places : AreAtPlaces old new
  pub over : StayOver old.clients new.clients
  pub go_on : GoOn old.clients new.clients no_one (of_session id (bytes_out given)) no_one []

-- what waits for the session is handed out where there is room for it, and waits on where there is none
abbrev pub HandsOut : (room : Bool) → SessionId → Option Output → Sessions → Sessions → Type 0
HandsOut true id given old new = IsHandedOut id given old new
HandsOut false id given old new = (given ≡ None) × (new ≡ old)

-- the reply was lost, and its session ended, since memory ran out
abbrev pub is_lost : Delivered → Bool
is_lost ToSession = false
is_lost Dropped = false
is_lost OutOfMemory = true

-- A reply comes to its session, unless it is lost, and what waits there then goes out.
pub record IsTold (room lost : Bool) (reply : GivenReply) (old new : Sessions) (given : Option Output) (events : List ClientEvent) : Type 0 where
  pub mid : Sessions
  pub came : Delivered
  pub delivers : Delivers reply came old mid events
  pub loss : lost ≡ is_lost came
  pub hands : HandsOut room reply.session given mid new

-- the replies come to their sessions, one after another; some of them are lost, or none
abbrev pub AreTold : (room lost : Bool) → List GivenReply → Sessions → Sessions → List Output → List ClientEvent → Type 0
AreTold room lost [] old new outputs events = (new ≡ old) × (outputs ≡ []) × (events ≡ []) × (lost ≡ false)
AreTold room lost (r ∷ rs) old new outputs events =
    (mid : Sessions) × (given : Option Output) × (rest : List Output) × (now later : List ClientEvent) × (one more : Bool)
    × IsTold room one r old mid given now × AreTold room more rs mid new rest later
    × (outputs ≡ option_to_list given ++ rest) × (events ≡ now ++ later) × (lost ≡ (one || more))

-- the outputs in the order in which they went out; none where there was no room
abbrev pub outputs_of : Told → List Output
outputs_of (Out outputs) = outputs.items
outputs_of (Lost outputs) = outputs.items
outputs_of Withheld = []

abbrev pub has_room : Told → Bool
has_room (Out outputs) = true
has_room (Lost outputs) = true
has_room Withheld = false

-- it tells that no reply was lost, and all that went out
abbrev pub is_whole : Told → Bool
is_whole (Out outputs) = true
is_whole (Lost outputs) = false
is_whole Withheld = false

-- it tells whether replies were lost; without room it tells that memory ran out
abbrev pub TellsLoss : Told → (lost : Bool) → Type 0
TellsLoss (Out outputs) lost = lost ≡ false
TellsLoss (Lost outputs) lost = lost ≡ true
TellsLoss Withheld lost = Unit {0}

-- The replies came to their sessions, and clients saw these events: what went out, and whether replies were lost, is told.
pub record Tells (told : Told) (replies : List GivenReply) (old new : Sessions) : Type 0 where
  pub lost : Bool
  pub events : List ClientEvent
  pub comes : AreTold (has_room told) lost replies old new (outputs_of told) events
  pub loss : TellsLoss told lost

-- what went out to the session
abbrev pub handed_by : List Output → SessionId → List ℕ
handed_by outputs id = flat_map (λ o. of_session o.session o.bytes.items id) outputs

-- ---- of a world

-- the chain did so, without a reply
pub record Moves {S : Type 0} (old new : Seen S) (Did : Chained S → Chained S → Type 0) : Type 0 where
  pub did : Did old.chain new.chain
  pub are : new ≡ record old { chain = new.chain }

-- the chain did so, and its replies came to their sessions
pub record Answers {S : Type 0} (told : Told) (old new : Seen S) (Did : List GivenReply → Chained S → Chained S → Type 0) : Type 0 where
  pub replies : List GivenReply
  pub did : Did replies old.chain new.chain
  pub tells : Tells told replies old.sessions new.sessions
  pub are : new ≡ record old { chain = new.chain; sessions = new.sessions }

-- what a call's answer hands out, where it has something
abbrev pub handed_in : {V E : Type 0} → (V → Told) → Result V E → SessionId → List ℕ
handed_in told (Ok v) = handed_by (outputs_of (told v))
handed_in told (Err e) = λ id. []

abbrev pub handed_if : {V E : Type 0} → (V → Told) → Result (Option V) E → SessionId → List ℕ
handed_if told (Ok None) = λ id. []
handed_if told (Ok (Some v)) = handed_by (outputs_of (told v))
handed_if told (Err e) = λ id. []

abbrev pub handed_lost : {V : Type 0} → Result V Told → SessionId → List ℕ
handed_lost (Ok v) = λ id. []
handed_lost (Err told) = handed_by (outputs_of told)

abbrev pub handed_some : Option Told → SessionId → List ℕ
handed_some None = λ id. []
handed_some (Some told) = handed_by (outputs_of told)
