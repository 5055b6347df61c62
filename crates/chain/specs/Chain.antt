-- What contracts see of a chain, what holds of every one, and when a call of it is of the one volume.
use Rattle.std.specs.Prelude.{◌≡◌, ℕ, ◌+◌, ◌*◌, Bool, ◌&&◌, false, true, Option, None, Some, List, [], ◌∷◌, All, length, slice_get, slice_set}
use Rattle.std.specs.List.{AllZip, flat_map}
use Rattle.std.specs.Option.{ForSome}
use Rattle.board.specs.Seats.{BoardId}
use Rattle.configurations.specs.Record.{Record}
use Rattle.flush_barrier.specs.Reply.{GivenReply}
use Rattle.gate_journal.specs.Receipt.{Receipt}
use Rattle.local_store.specs.About.{About}
use Rattle.volume.specs.declared.geometry.Geometry.{Geometry}
use Rattle.chain_steps.specs.Node.{is_stopped}
use Rattle.chain_steps.specs.Place.{is_member}
use Rattle.chain_steps.specs.declared.message.Envelope.{Envelope}
use Rattle.world_model.specs.Chain.{ArePutOut, BoardInUse}
use Rattle.world_model.specs.Event.{ClientEvent}
use Rattle.world_model.specs.Life.{all_events}
use Rattle.world_model.specs.Machine.{State}
use Rattle.chain_model.specs.Chain.{StandsFor}
use Rattle.chain_model.specs.Life.{BoardTells, Era, FrontHeld, FrontRaised, Happening, JoinBegun, JoinEnded, JoinerCounted, JoinerLeft, MemberDoes, MemberForgotten, MemberSubmits, MemberTakes, MemberTold, MessageTaken, RaisedKnown, RecordBegun, RecordEnded, RequestsSent, RequestsTakenUp, SessionBegins, SessionEnds, SubmitTaken}
use Rattle.chain_model.specs.View.{View}
use Rattle.chain.specs.Links.{AreInside, link_at}
use Rattle.chain.specs.LoneBoard.{Words}
use Rattle.chain.specs.Member.{IsFrontOf, IsMusterOf, IsShown, Linked, fronts_of, musters_of, receipts_of}

-- A chain: its board with the words on it and the one seat; the recorded chain, the one recorded before it, and the record that is
-- being written; the greatest incarnation that was recorded since it began; the sizes of its volume; whoever stands at the slots; and
-- the chain links and submit links between these.
pub record Chained (S : Type 0) : Type 0 where
  pub id : BoardId
  pub seat : ℕ
  pub words : Words
  pub recorded : Record
  pub before : Record
  pub writing : Option Record
  pub youngest : ℕ
  pub geometry : Geometry
  pub members : List (Linked S)
  pub links : List (List Envelope)
  pub submits : List (List Envelope)

-- a member of this board and seat, whose volume has these sizes, and which is in the chain that it was told
pub record IsIn {S : Type 0} (about : S → About) (id : BoardId) (seat : ℕ) (geometry : Geometry) (m : Linked S) : Type 0 where
  pub board : m.node.state.board ≡ id
  pub sizes : (about m.node.store).geometry ≡ geometry
  pub member : is_member m.node.state.place ≡ true
  pub front : ForSome m.front (IsFrontOf id seat)
  pub muster : ForSome m.muster (IsMusterOf id seat)

-- what holds of every chain: each member is one of its board and sizes, in the chain that it was told; there is a link of each kind from
-- each slot to each; and each write on its way lies in the volume
pub record IsFormed {S : Type 0} (about : S → About) (c : Chained S) : Type 0 where
  pub members : All (IsIn about c.id c.seat c.geometry) c.members
  pub all_links : length c.links ≡ 64
  pub all_submits : length c.submits ≡ 64
  pub links_inside : AreInside (4096 * c.geometry.blocks) c.links
  pub submits_inside : AreInside (4096 * c.geometry.blocks) c.submits

-- ---- as which view it is shown

-- the gauges by slot, from this one on
abbrev pub gauges_from : ℕ → List ℕ → List Receipt
gauges_from slot [] = []
gauges_from slot (front ∷ fronts) = record { slot = slot; front = front } ∷ gauges_from (slot + 1) fronts

-- the board, and what of it is in use
abbrev pub told_of : {S : Type 0} → Chained S → BoardInUse
told_of c = record {
  front = c.words.front;
  mask = c.words.mask;
  gauges = gauges_from 0 c.words.gauges;
  fronts = flat_map (λ m. fronts_of m.front) c.members;
  musters = flat_map (λ m. musters_of m.muster) c.members;
  receipts = flat_map (λ m. receipts_of m.receipt) c.members;
}

-- the bytes of its volume
abbrev pub bytes_of : {S : Type 0} → Chained S → ℕ
bytes_of c = 4096 * c.geometry.blocks

-- The chain is shown so, with what its sessions keep and who joins it, whatever that is: whoever runs the chain has the joiner's disk.
pub record Shows {S : Type 0} (about : S → About) (keeps : S → List ℕ → Type 0) (may_leave_now : S → List ℕ → Type 0) (c : Chained S) (v : View) : Type 0 where
  pub told : v.told ≡ told_of c
  pub recorded : v.recorded ≡ c.recorded
  pub before : v.before ≡ c.before
  pub writing : v.writing ≡ c.writing
  pub youngest : v.youngest ≡ c.youngest
  pub members : AllZip (IsShown about keeps may_leave_now (bytes_of c)) c.members v.members
  pub links : v.links ≡ link_at c.links
  pub submits : v.submits ≡ link_at c.submits

-- ---- what a call does

-- the member at the place became another, and nothing else changed
pub record Changes {S : Type 0} (at : ℕ) (old new : Chained S) (Did : Linked S → Linked S → Type 0) : Type 0 where
  pub before : Linked S
  pub after : Linked S
  pub here : slice_get old.members at ≡ Some before
  pub did : Did before after
  pub are : new ≡ record old { members = slice_set old.members at after }

-- the member at the place has stopped, and nothing changed
pub record RestsAt {S : Type 0} (at : ℕ) (old new : Chained S) : Type 0 where
  pub member : Linked S
  pub here : slice_get old.members at ≡ Some member
  pub stopped : is_stopped member.node.state ≡ true
  pub same : new ≡ old

-- this is neither of sessions nor of what waits for a member, and leaves who joins and who is a member
abbrev pub is_inner : Happening → Bool
is_inner (MemberTakes taking) = false
is_inner MemberSubmits = false
is_inner (MemberDoes doing) = true
is_inner RaisedKnown = true
is_inner FrontHeld = true
is_inner MessageTaken = true
is_inner SubmitTaken = true
is_inner FrontRaised = true
is_inner BoardTells = true
is_inner RecordBegun = true
is_inner RecordEnded = true
is_inner JoinerCounted = false
is_inner JoinerLeft = false
is_inner JoinBegun = false
is_inner JoinEnded = false
is_inner MemberForgotten = false
is_inner MemberTold = true
is_inner SessionBegins = false
is_inner SessionEnds = false
is_inner RequestsSent = false
is_inner RequestsTakenUp = false

abbrev pub are_inner : List Happening → Bool
are_inner [] = true
are_inner (h ∷ hs) = is_inner h && are_inner hs

-- some such things happen, one after another, and clients see these events of them all
pub record Goes (size : ℕ) (v w : View) (events : List ClientEvent) : Type 0 where
  pub happenings : List Happening
  pub each : List (List ClientEvent)
  pub inner : are_inner happenings ≡ true
  pub era : Era size v happenings w each
  pub all : all_events each ≡ events

-- Whatever state of the one volume the chain stood for, what the call did can happen in such a chain: clients see its replies, but
-- for those that no session puts out.
abbrev pub IsOfOneVolume : {S : Type 0} → (S → About) → (S → List ℕ → Type 0) → (S → List ℕ → Type 0) → Chained S → Chained S → List GivenReply → Type 0
IsOfOneVolume about keeps may_leave_now old new replies =
    (v : View) (s : State) (events : List ClientEvent) → Shows about keeps may_leave_now old v → StandsFor (bytes_of old) v s → ArePutOut replies events
    → (w : View) × Shows about keeps may_leave_now new w × Goes (bytes_of old) v w events

-- So it is of a chain that nobody joins.
abbrev pub IsOfOneVolumeAlone : {S : Type 0} → (S → About) → (S → List ℕ → Type 0) → (S → List ℕ → Type 0) → Chained S → Chained S → List GivenReply → Type 0
IsOfOneVolumeAlone about keeps may_leave_now old new replies =
    (v : View) (s : State) (events : List ClientEvent) → Shows about keeps may_leave_now old v → v.joiner ≡ None → StandsFor (bytes_of old) v s → ArePutOut replies events
    → (w : View) × Shows about keeps may_leave_now new w × Goes (bytes_of old) v w events
