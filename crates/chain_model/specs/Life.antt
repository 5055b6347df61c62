-- The life of a chain: whatever its members, its clients, its board and its manager do, one thing after another, with cuts in between.
use Rattle.std.specs.Prelude.{◌≡◌, ◌≢◌, ◌⊎◌, ℕ, ◌<◌, ◌≤◌, true, false, Option, None, Some, List, [], ◌∷◌, ◌++◌, length, map, take, drop, set, fold, slice_get, All}
use Rattle.std.specs.List.{insert}
use Rattle.std.specs.Option.{ForSome}
use Rattle.board.specs.Mask.{counts}
use Rattle.board.specs.Seats.{FoundFront}
use Rattle.configurations.specs.Record.{Record}
use Rattle.flush_barrier.specs.Owed.{Owed, OwedAt}
use Rattle.flush_barrier.specs.declared.error_code.ErrorCode.{ErrorCode}
use Rattle.flush_barrier.specs.declared.error_code.ErrorCode.TheVariants.{Io, NoMemory}
use Rattle.version_table.specs.Held.{IsClean, writes_upto}
use Rattle.volume.specs.Writes.{Fits, Placed, patched, volume_of}
use Rattle.chain_steps.specs.Node.{Commit, NodeState, Stepped, Taken, epoch_of, last_of}
use Rattle.chain_steps.specs.Place.{is_member, is_tail}
use Rattle.chain_steps.specs.Steps.{answer_at, answer_floor, deliver, ended, flush, hold, know, read_asked, stop, submit, told}
use Rattle.chain_steps.specs.Waiting.{debt_of, waits_for}
use Rattle.chain_steps.specs.declared.cause.Cause.{Cause}
use Rattle.chain_steps.specs.declared.cause.Cause.TheVariants.{Disorder}
use Rattle.chain_steps.specs.declared.found.Found.TheVariants.{Raised, Looked}
use Rattle.chain_steps.specs.declared.message.Envelope.{Envelope}
use Rattle.chain_steps.specs.declared.waiting.WriteToken.{WriteToken}
use Rattle.world_model.specs.Backing.{IsBacked}
use Rattle.world_model.specs.Chain.{ArePutOut, BoardInUse}
use Rattle.world_model.specs.Event.{Answered, ClientEvent, Done, Failed, Read}
use Rattle.world_model.specs.Life.{all_events}
use Rattle.world_model.specs.Machine.{IsFlush, May, Move, Plays, Restart, RunsOn, State, after, shown, start, written}
use Rattle.world_model.specs.Requests.{Held, IsNew, IsOfKind, sent_event}
use Rattle.chain_model.specs.Chain.{IsAtRest, IsWithin, StandsFor}
use Rattle.chain_model.specs.Laws.{HasPassed, HasSent, HasTaken, IsBeginning, IsGone, IsNewcomer, IsNext, IsWith, with_members}
use Rattle.chain_model.specs.View.{Joiner, Member, View, disks_of, is_in_some, may_be_recorded, slot_of}

-- ---- what one member does

-- with the first demand of its sessions, which is gone then
pub data Taking : Type 0 where
  Drop : Taking
  Refuse : (error : ErrorCode) → Taking
  Answer : (offset len : ℕ) → Taking
  Ask : (offset len : ℕ) (token : Owed) → Taking
  Wait : (token : OwedAt) → Taking

-- beside that: with a front that it looked up or raised, with a floor, with a commit, and when it stops
pub data Doing : Type 0 where
  LookUp : (front : FoundFront) → Doing
  AnswerFront : (front : FoundFront) → Doing
  AnswerFloor : (floor : ℕ) → Doing
  KeepRaised : (front : FoundFront) → Doing
  BeginCommit : (commit : Option Commit) → Doing
  EndCommit : (p : ℕ) → Doing
  Stop : (cause : Cause) → Doing

-- a member may refuse a request: for memory; or with EIO, once it has stopped, and before it was told the record by which it joined
abbrev pub MayRefuse : ErrorCode → NodeState → Type 0
MayRefuse NoMemory node = Unit {0}
MayRefuse Io node = (node.stopped ≢ None) ⊎ (is_member node.place ≡ false)

-- the demand may be taken so, and the member is this then
abbrev pub Takes : ℕ → Taking → Held → List Held → Member → Member → List ClientEvent → Type 0
Takes size Drop d rest m g events = (g ≡ record m { demands = rest }) × (events ≡ [])
Takes size (Refuse error) d rest m g events = MayRefuse error m.node × (g ≡ record m { demands = rest }) × (events ≡ Answered d.session d.cookie (Failed error) ∷ [])
Takes size (Answer offset len) d rest m g events =
    (m.node.stopped ≡ None) × (d.request ≡ Read offset len) × IsClean m.node.table offset len m.node.known × (length m.volume ≡ size) × All (λ k. Fits size k.write) m.node.table.kept
    × (g ≡ record m { demands = rest }) × (events ≡ Answered d.session d.cookie (Done (take len (drop offset (fold patched m.volume (writes_upto m.node.table m.node.known))))) ∷ [])
Takes size (Ask offset len token) d rest m g events =
    (d.request ≡ Read offset len) × (token.session ≡ d.session) × (token.cookie ≡ d.cookie) × (g ≡ record m { node = (read_asked offset len token m.node).node; demands = rest }) × (events ≡ [])
Takes size (Wait token) d rest m g events =
    IsFlush d.request × (token.session ≡ d.session) × (token.cookie ≡ d.cookie) × (token.number ≡ None) × (g ≡ record m { node = (flush token m.node).node; demands = rest }) × (events ≡ [])

-- the member may do so in this chain, and is this then
abbrev pub Does : View → Doing → Member → Member → List ClientEvent → Type 0
Does v (LookUp front) m g events = (front.number ≡ v.told.front) × (g ≡ record m { node = record m.node { found = Some (Looked front) } }) × (events ≡ [])
Does v (AnswerFront front) m g events =
    (m.node.stopped ≡ None) × (m.node.found ≡ Some (Looked front)) × (front.number ≤ last_of m.node) × ArePutOut (answer_at m.volume front.number m.node).out.replies events
    × (g ≡ record m { node = (answer_at m.volume front.number m.node).node })
Does v (AnswerFloor floor) m g events =
    (floor ≤ v.told.front) × All (λ d. floor ≤ d.durable) (disks_of v.recorded v.writing v.members) × ArePutOut (answer_floor floor m.node).out.replies events × (g ≡ record m { node = (answer_floor floor m.node).node })
Does v (KeepRaised front) m g events = (front.number ≤ v.told.front) × (g ≡ record m { node = record m.node { found = Some (Raised front) } }) × (events ≡ [])
Does v (BeginCommit commit) m g events = (g ≡ record m { node = record m.node { commit = commit; found = None } }) × (events ≡ [])
Does v (EndCommit p) m g events =
    (m.node.stopped ≡ None) × (m.node.table.forgotten < p) × (p ≤ m.node.known) × (g ≡ record m { node = ended p m.node; volume = fold patched m.volume (writes_upto m.node.table p) }) × (events ≡ [])
Does v (Stop cause) m g events = (m.node.stopped ≡ None) × (cause ≢ Disorder) × ArePutOut (stop cause m.node).out.replies events × (g ≡ record m { node = (stop cause m.node).node })

-- ---- what happens in a chain

pub data Happening : Type 0 where
  MemberTakes : (taking : Taking) → Happening
  MemberSubmits : Happening
  MemberDoes : (doing : Doing) → Happening
  RaisedKnown : Happening
  FrontHeld : Happening
  MessageTaken : Happening
  SubmitTaken : Happening
  FrontRaised : Happening
  BoardTells : Happening
  RecordBegun : Happening
  RecordEnded : Happening
  JoinerCounted : Happening
  JoinerLeft : Happening
  JoinBegun : Happening
  JoinEnded : Happening
  MemberForgotten : Happening
  MemberTold : Happening
  SessionBegins : Happening
  SessionEnds : Happening
  RequestsSent : Happening
  RequestsTakenUp : Happening

-- one member becomes another
pub record OneBecomes (Change : Member → Member → Type 0) (v w : View) : Type 0 where
  pub above : List Member
  pub old : Member
  pub new : Member
  pub below : List Member
  pub were : v.members ≡ above ++ old ∷ below
  pub are : w ≡ with_members v (above ++ new ∷ below)
  pub change : Change old new

-- a member takes the first demand so
pub record IsTaken (size : ℕ) (taking : Taking) (events : List ClientEvent) (m g : Member) : Type 0 where
  pub demand : Held
  pub rest : List Held
  pub first : m.demands ≡ demand ∷ rest
  pub takes : Takes size taking demand rest m g events

-- a member that is in the chain that it was told takes the first demand, a write, and submits it
pub record IsSubmitted (v w : View) : Type 0 where
  pub above : List Member
  pub member : Member
  pub below : List Member
  pub demand : Held
  pub rest : List Held
  pub token : WriteToken
  pub write : Placed
  pub submits : ℕ → ℕ → List Envelope
  pub were : v.members ≡ above ++ member ∷ below
  pub runs : member.node.stopped ≡ None
  pub placed : is_member member.node.place ≡ true
  pub first : member.demands ≡ demand ∷ rest
  pub writes : written demand.request ≡ Some write
  pub kind : IsOfKind (waits_for member.node.ticket (epoch_of member.node) token) demand.request
  pub fresh : IsNew member.node.ticket (waits_for member.node.ticket (epoch_of member.node) token)
  pub session : (debt_of (waits_for member.node.ticket (epoch_of member.node) token)).session ≡ demand.session
  pub cookie : (debt_of (waits_for member.node.ticket (epoch_of member.node) token)).cookie ≡ demand.cookie
  pub sent : HasSent (slot_of member) (submit token write member.node).out.messages v.submits submits
  pub are : w ≡ record v { members = above ++ record member { node = (submit token write member.node).node; demands = rest } ∷ below; submits = submits }

-- a member knows what it raised, and tells the one before it
pub record IsKnown (v w : View) (events : List ClientEvent) : Type 0 where
  pub above : List Member
  pub member : Member
  pub below : List Member
  pub front : FoundFront
  pub links : ℕ → ℕ → List Envelope
  pub were : v.members ≡ above ++ member ∷ below
  pub runs : member.node.stopped ≡ None
  pub found : member.node.found ≡ Some (Raised front)
  pub more : member.node.known ≤ front.number
  pub sent : HasSent (slot_of member) (know front.number front.number member.node).out.messages v.links links
  pub out : ArePutOut (know front.number front.number member.node).out.replies events
  pub are : w ≡ record v { members = above ++ record member { node = (know front.number front.number member.node).node } ∷ below; links = links }

-- the tail of the recorded chain takes the committed front as its known commit, holds it, and tells the one before it
pub record IsFrontHeld (v w : View) (events : List ClientEvent) : Type 0 where
  pub above : List Member
  pub tail : Member
  pub below : List Member
  pub front : FoundFront
  pub links : ℕ → ℕ → List Envelope
  pub were : v.members ≡ above ++ tail ∷ below
  pub runs : tail.node.stopped ≡ None
  pub found : tail.node.found ≡ Some (Looked front)
  pub committed : front.number ≡ v.told.front
  pub now : epoch_of tail.node ≡ v.recorded.epoch
  pub ends : is_tail tail.node.place ≡ true
  pub sent : HasSent (slot_of tail) (hold tail.node).out.messages v.links links
  pub out : ArePutOut (hold tail.node).out.replies events
  pub are : w ≡ record v { members = above ++ record tail { node = (hold tail.node).node } ∷ below; links = links }

-- a member takes the first message of a chain link
pub record IsMessageTaken (v w : View) (events : List ClientEvent) : Type 0 where
  pub above : List Member
  pub member : Member
  pub below : List Member
  pub from : ℕ
  pub envelope : Envelope
  pub stepped : Stepped
  pub links : ℕ → ℕ → List Envelope
  pub were : v.members ≡ above ++ member ∷ below
  pub taken : deliver from envelope member.node ≡ Taken stepped
  pub passed : HasPassed from (slot_of member) envelope stepped.out.messages v.links links
  pub out : ArePutOut stepped.out.replies events
  pub are : w ≡ record v { members = above ++ record member { node = stepped.node } ∷ below; links = links }

-- a member takes the first write of a submit link
pub record IsSubmitTaken (v w : View) (events : List ClientEvent) : Type 0 where
  pub above : List Member
  pub member : Member
  pub below : List Member
  pub from : ℕ
  pub envelope : Envelope
  pub stepped : Stepped
  pub links : ℕ → ℕ → List Envelope
  pub submits : ℕ → ℕ → List Envelope
  pub were : v.members ≡ above ++ member ∷ below
  pub taken : deliver from envelope member.node ≡ Taken stepped
  pub gone : HasTaken from (slot_of member) envelope v.submits submits
  pub sent : HasSent (slot_of member) stepped.out.messages v.links links
  pub out : ArePutOut stepped.out.replies events
  pub are : w ≡ record v { members = above ++ record member { node = stepped.node } ∷ below; links = links; submits = submits }

-- a tail raises the front to its last applied write
pub record IsRaised (v w : View) : Type 0 where
  pub above : List Member
  pub tail : Member
  pub below : List Member
  pub were : v.members ≡ above ++ tail ∷ below
  pub runs : tail.node.stopped ≡ None
  pub turned : tail.node.turned ≡ true
  pub free : tail.node.holds ≡ false
  pub ends : is_tail tail.node.place ≡ true
  pub are : w ≡ record v { told = record v.told { front = last_of tail.node } }

-- what of the board is in use changes, but not its front; what it tells of the disks is so, and within that; and who joins is counted
pub record IsToldOfDisks (v w : View) : Type 0 where
  pub told : BoardInUse
  pub front : told.front ≡ v.told.front
  pub within : IsWithin v.told.front v.told.gauges v.told.receipts v.told.musters → IsWithin told.front told.gauges told.receipts told.musters
  pub joiner : ForSome v.joiner (λ j. counts v.told.mask j.slot ≡ true → counts told.mask j.slot ≡ true)
  pub backed : IsBacked v.told.front v.told.mask v.told.gauges v.told.receipts v.told.musters (disks_of v.recorded v.writing v.members)
      → IsBacked told.front told.mask told.gauges told.receipts told.musters (disks_of v.recorded v.writing v.members)
  pub fronts : All (λ f. f ≤ v.told.front) v.told.fronts → All (λ f. f ≤ told.front) told.fronts
  pub are : w ≡ record v { told = told }

-- the next record is being written, and is recorded then, while nobody joins
pub record IsBegun (v w : View) : Type 0 where
  pub next : Record
  pub follows : IsNext v next
  pub none : v.writing ≡ None
  pub are : w ≡ record v { writing = Some next }

pub record IsEnded (v w : View) : Type 0 where
  pub next : Record
  pub follows : IsNext v next
  pub begun : v.writing ≡ Some next
  pub alone : v.joiner ≡ None
  pub told : All (λ m. m.node.stopped ≡ None → epoch_of m.node ≡ v.recorded.epoch) v.members
  pub are : w ≡ record v { recorded = next; before = v.recorded; writing = None }

-- A joiner of a new incarnation is counted, with the volume that the tail holds for it. All that run were told the recorded chain, and no
-- record is being written.
pub record IsCounted (v w : View) : Type 0 where
  pub above : List Member
  pub tail : Member
  pub below : List Member
  pub joiner : Joiner
  pub were : v.members ≡ above ++ tail ∷ below
  pub runs : tail.node.stopped ≡ None
  pub holds : tail.node.holds ≡ true
  pub front : joiner.front ≡ tail.node.known
  pub volume : joiner.volume ≡ fold patched tail.volume (writes_upto tail.node.table joiner.front)
  pub incarnation : v.youngest < joiner.incarnation
  pub apart : All (λ m. slot_of m ≢ joiner.slot) v.members
  pub rests : All (IsAtRest v.recorded) v.members
  pub counted : counts v.told.mask joiner.slot ≡ true
  pub alone : v.joiner ≡ None
  pub none : v.writing ≡ None
  pub are : w ≡ record v { joiner = Some joiner }

-- it is given up, while no record is being written
pub record IsGivenUp (v w : View) : Type 0 where
  pub none : v.writing ≡ None
  pub are : w ≡ record v { joiner = None }

-- the record with the joiner is being written, and is recorded then: it is a member, who wasn't told that yet
pub record IsJoinBegun (v w : View) : Type 0 where
  pub joiner : Joiner
  pub next : Record
  pub joins : v.joiner ≡ Some joiner
  pub follows : IsWith v joiner next
  pub none : v.writing ≡ None
  pub are : w ≡ record v { writing = Some next }

pub record IsJoinEnded (v w : View) : Type 0 where
  pub joiner : Joiner
  pub next : Record
  pub member : Member
  pub joins : v.joiner ≡ Some joiner
  pub follows : IsWith v joiner next
  pub begun : v.writing ≡ Some next
  pub starts : IsNewcomer v.recorded joiner member
  pub are : w ≡ record v { recorded = next; before = v.recorded; writing = None; youngest = joiner.incarnation; joiner = None; members = v.members ++ member ∷ [] }

-- a removed member is forgotten, once all that run were told the recorded chain, and nothing waits for it
pub record IsForgotten (v w : View) : Type 0 where
  pub above : List Member
  pub member : Member
  pub below : List Member
  pub were : v.members ≡ above ++ member ∷ below
  pub idle : IsGone v.recorded member
  pub told : All (λ m. m.node.stopped ≡ None → epoch_of m.node ≡ v.recorded.epoch) v.members
  pub are : w ≡ with_members v (above ++ below)

-- a member is told the recorded chain
pub record IsTold (v w : View) (events : List ClientEvent) : Type 0 where
  pub above : List Member
  pub member : Member
  pub below : List Member
  pub stepped : Stepped
  pub links : ℕ → ℕ → List Envelope
  pub were : v.members ≡ above ++ member ∷ below
  pub taken : told v.recorded member.node ≡ Taken stepped
  pub sent : HasSent (slot_of member) stepped.out.messages v.links links
  pub out : ArePutOut stepped.out.replies events
  pub are : w ≡ record v { members = above ++ record member { node = stepped.node } ∷ below; links = links }

-- requests are sent to the session at this place
pub record IsSentTo (v w : View) (events : List ClientEvent) : Type 0 where
  pub at : ℕ
  pub kept : List Held
  pub more : List Held
  pub here : slice_get v.kept at ≡ Some kept
  pub are : w ≡ record v { kept = set v.kept at (kept ++ more) }
  pub shown_are : events ≡ map sent_event more

-- a session takes up the first requests that it keeps, for its member
pub record IsTakenUp (v w : View) : Type 0 where
  pub above : List Member
  pub member : Member
  pub below : List Member
  pub at : ℕ
  pub taken : List Held
  pub kept : List Held
  pub were : v.members ≡ above ++ member ∷ below
  pub here : slice_get v.kept at ≡ Some (taken ++ kept)
  pub are : w ≡ record v { members = above ++ record member { demands = member.demands ++ taken } ∷ below; kept = set v.kept at kept }

-- this happens in a chain, which is then another, and clients see these events
abbrev pub Happens : ℕ → Happening → View → View → List ClientEvent → Type 0
Happens size (MemberTakes taking) v w events = OneBecomes (IsTaken size taking events) v w
Happens size MemberSubmits v w events = IsSubmitted v w × (events ≡ [])
Happens size (MemberDoes doing) v w events = OneBecomes (λ m g. Does v doing m g events) v w
Happens size RaisedKnown v w events = IsKnown v w events
Happens size FrontHeld v w events = IsFrontHeld v w events
Happens size MessageTaken v w events = IsMessageTaken v w events
Happens size SubmitTaken v w events = IsSubmitTaken v w events
Happens size FrontRaised v w events = IsRaised v w × (events ≡ [])
Happens size BoardTells v w events = IsToldOfDisks v w × (events ≡ [])
Happens size RecordBegun v w events = IsBegun v w × (events ≡ [])
Happens size RecordEnded v w events = IsEnded v w × (events ≡ [])
Happens size JoinerCounted v w events = IsCounted v w × (events ≡ [])
Happens size JoinerLeft v w events = IsGivenUp v w × (events ≡ [])
Happens size JoinBegun v w events = IsJoinBegun v w × (events ≡ [])
Happens size JoinEnded v w events = IsJoinEnded v w × (events ≡ [])
Happens size MemberForgotten v w events = IsForgotten v w × (events ≡ [])
Happens size MemberTold v w events = IsTold v w events
Happens size SessionBegins v w events = (at : ℕ) × (w ≡ record v { kept = insert v.kept at [] }) × (events ≡ [])
Happens size SessionEnds v w events = (at : ℕ) × (w ≡ record v { kept = set v.kept at [] }) × (events ≡ [])
Happens size RequestsSent v w events = IsSentTo v w events
Happens size RequestsTakenUp v w events = IsTakenUp v w × (events ≡ [])

-- ---- an era, and a life

-- one thing after another, with what clients see of each
abbrev pub Era : ℕ → View → List Happening → View → List (List ClientEvent) → Type 0
Era size v [] w events = (w ≡ v) × (events ≡ [])
Era size v (h ∷ hs) w events = (mid : View) × (now : List ClientEvent) × (later : List (List ClientEvent)) × (events ≡ now ∷ later) × Happens size h v mid now × Era size mid hs w later

-- After an era everything is cut: the recorded chain is the last one, or the one that was being written. The disk of a member of that
-- means some front from its durable one to its known commit, with the volume there, and a chain begins at that.
pub record IsCut (v w : View) : Type 0 where
  pub above : List Member
  pub member : Member
  pub below : List Member
  pub front : ℕ
  pub were : v.members ≡ above ++ member ∷ below
  pub among : may_be_recorded v.recorded v.writing member.node ≡ true
  pub durable : member.node.table.forgotten ≤ front
  pub known : front ≤ member.node.known
  pub begins : IsBeginning front (fold patched member.volume (writes_upto member.node.table front)) w

-- or it is the disk of a joiner that goes on, while the record with it is being written
pub record IsCutToJoiner (v w : View) : Type 0 where
  pub joiner : Joiner
  pub joins : v.joiner ≡ Some joiner
  pub among : is_in_some v.writing joiner.slot joiner.incarnation ≡ true
  pub begins : IsBeginning joiner.front joiner.volume w

-- a life: eras, with a cut between two
abbrev pub Life : ℕ → View → List (List Happening) → View → List (List (List ClientEvent)) → Type 0
Life size v [] w events = (w ≡ v) × (events ≡ [])
Life size v (era ∷ []) w events = (now : List (List ClientEvent)) × (events ≡ now ∷ []) × Era size v era w now
Life size v (era ∷ next ∷ eras) w events =
    (end begun : View) × (now : List (List ClientEvent)) × (later : List (List (List ClientEvent))) × (events ≡ now ∷ later) × Era size v era end now × (IsCut end begun ⊎ IsCutToJoiner end begun) × Life size begun (next ∷ eras) w later

-- one run for each era, none of them with a restart, and one restart between two: they show what clients see of each
abbrev pub RunsEras : ℕ → State → List (List (List ClientEvent)) → State → Type 0
RunsEras size s [] t = t ≡ s
RunsEras size s (era ∷ []) t = (moves : List Move) × RunsOn s moves t × (shown size s moves ≡ all_events era)
RunsEras size s (era ∷ next ∷ eras) t =
    (moves : List Move) × (end : State) × (front : ℕ) × RunsOn s moves end × (shown size s moves ≡ all_events era) × May end (Restart front) × RunsEras size (after end (Restart front)) (next ∷ eras) t

-- Whatever happens in a chain is of one volume.
abbrev pub HappeningsAreOfOneVolume : Type 0
HappeningsAreOfOneVolume = (size : ℕ) (v w : View) (h : Happening) (events : List ClientEvent) → Happens size h v w events → Plays size (StandsFor size v) (StandsFor size w) events

-- Every life of a chain that begins over zeros, with members removed, with others that join, and with records cut short, is one of the one
-- volume: what was answered with FUA, or before a FLUSH was sent that was answered, is there after each cut.
abbrev pub LivesAreOfOneVolume : Type 0
LivesAreOfOneVolume = (size : ℕ) (v w : View) (eras : List (List Happening)) (events : List (List (List ClientEvent))) → IsBeginning 0 (volume_of size []) v → Life size v eras w events
    → (t : State) × RunsEras size start events t × StandsFor size w t
