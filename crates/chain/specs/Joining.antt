-- What becomes of a chain that a disk joins: the disk is counted, it is recorded, and then it is a member's.
use Rattle.std.specs.Prelude.{◌≡◌, ◌≢◌, ℕ, suc, ◌<◌, true, false, Option, Some, None, List, [], ◌∷◌, ◌++◌, All, IsSomeAnd, map, slice_get}
use Rattle.board.specs.Seats.{BoardId}
use Rattle.configurations.specs.Record.{Record}
use Rattle.gate_journal.specs.Receipt.{Receipt}
use Rattle.local_store.specs.About.{About}
use Rattle.chain_steps.specs.Node.{NodeState}
use Rattle.chain_steps.specs.Place.{is_tail}
use Rattle.chain_steps.specs.Steps.{volume_at}
use Rattle.world_model.specs.Event.{ClientEvent}
use Rattle.world_model.specs.Life.{all_events}
use Rattle.world_model.specs.Machine.{State}
use Rattle.world_model.specs.Requests.{Held}
use Rattle.chain_model.specs.Chain.{StandsFor}
use Rattle.chain_model.specs.Life.{Era, Happening}
use Rattle.chain_model.specs.View.{Joiner, View}
use Rattle.chain.specs.Chain.{Chained, Shows, bytes_of}
use Rattle.chain.specs.LoneBoard.{counted_in, posted}
use Rattle.chain.specs.Member.{Linked}
use Rattle.chain.specs.Opening.{recorded_in, starting_of}
use Rattle.chain.specs.Recording.{AllTold}

-- ---- it is counted

-- a member that runs holds the front, if it is a tail
abbrev pub HoldsAsTail : NodeState → Type 0
HoldsAsTail node = node.stopped ≡ None → is_tail node.place ≡ true → node.holds ≡ true

-- the member runs, and holds this front for a joiner
pub record IsHolding (front : ℕ) (node : NodeState) : Type 0 where
  pub runs : node.stopped ≡ None
  pub holds : node.holds ≡ true
  pub known : node.known ≡ front

-- the receipt for all that the store's disk holds
abbrev pub receipt_of : {S : Type 0} → (S → About) → S → Receipt
receipt_of about store = record { slot = (about store).slot; front = (about store).front }

-- no record is being written, all that run were told the recorded chain, and they hold the front if they are its tail
pub record IsSettled {S : Type 0} (c : Chained S) : Type 0 where
  pub none : c.writing ≡ None
  pub told : AllTold c
  pub holds : All (λ m. HoldsAsTail m.node.state) c.members

-- the incarnation of the store's disk is later than all that were recorded, and nobody stands at its slot
pub record IsNew {S : Type 0} (about : S → About) (store : S) (c : Chained S) : Type 0 where
  pub incarnation : c.youngest < (about store).incarnation
  pub apart : All (λ m. m.node.state.place.slot ≢ (about store).slot) c.members

-- The store's disk may be counted, of which this is the receipt: it is new, the chain is settled, and the member at the place holds just
-- the disk's front.
pub record MayCountIn {S : Type 0} (about : S → About) (at : ℕ) (store : S) (receipt : Receipt) (c : Chained S) : Type 0 where
  pub holder : Linked S
  pub here : slice_get c.members at ≡ Some holder
  pub holding : IsHolding (about store).front holder.node.state
  pub its : receipt ≡ receipt_of about store
  pub settled : IsSettled c
  pub new : IsNew about store c

-- the receipt is posted, and the board counts its slot
abbrev pub HasCountedIn : {S : Type 0} → Receipt → Chained S → Chained S → Type 0
HasCountedIn receipt old new = new ≡ record old { words = counted_in (posted old.words receipt) receipt.slot }

-- ---- it is recorded

-- The next record has the store's disk behind the recorded members. Its epoch is the next one, and is the disk's incarnation; and the
-- store has the sizes of the chain's volume.
pub record IsWithOne {S : Type 0} (about : S → About) (store : S) (c : Chained S) (next : Record) : Type 0 where
  pub sizes : (about store).geometry ≡ c.geometry
  pub epoch : next.epoch ≡ suc c.recorded.epoch
  pub incarnation : (about store).incarnation ≡ next.epoch
  pub members : next.members ≡ c.recorded.members ++ recorded_in about store ∷ []

-- it may be written now, since no other one is
abbrev pub MayBeginJoin : {S : Type 0} → (S → About) → S → Record → Chained S → Type 0
MayBeginJoin about store next c = IsWithOne about store c next × (c.writing ≡ None)

-- it is what was being written
pub record MayEndJoin {S : Type 0} (about : S → About) (store : S) (c : Chained S) : Type 0 where
  pub next : Record
  pub begun : c.writing ≡ Some next
  pub follows : IsWithOne about store c next

-- the member of this store, in a chain that it was told and joins: all that its disk holds is known, and its Turn hasn't come
abbrev pub joined_of : {S : Type 0} → (S → About) → BoardId → Record → S → Linked S
joined_of about id chain store = starting_of about id chain false store

-- what was being written is the recorded chain, and whose store this is is a member, which was told it
pub record HasEndedJoin {S : Type 0} (about : S → About) (store : S) (old new : Chained S) : Type 0 where
  pub next : Record
  pub begun : old.writing ≡ Some next
  pub are : new ≡ record old {
    recorded = next;
    before = old.recorded;
    writing = None;
    youngest = (about store).incarnation;
    members = old.members ++ joined_of about old.id next store ∷ [];
  }

-- ---- of the one volume

-- the store is that of a joiner's disk, and keeps its volume
pub record IsStoreOf {S : Type 0} (about : S → About) (keeps : S → List ℕ → Type 0) (store : S) (joiner : Joiner) : Type 0 where
  pub slot : joiner.slot ≡ (about store).slot
  pub incarnation : joiner.incarnation ≡ (about store).incarnation
  pub front : joiner.front ≡ (about store).front
  pub keeping : keeps store joiner.volume

-- who joins has this store; or nobody does
abbrev pub IsOfStore : {S : Type 0} → (S → About) → (S → List ℕ → Type 0) → S → Option Joiner → Type 0
IsOfStore about keeps store joiner = IsSomeAnd joiner (IsStoreOf about keeps store)

abbrev pub IsNobody : Option Joiner → Type 0
IsNobody joiner = joiner ≡ None

-- the store keeps what the member at the place has at its known commit
abbrev pub IsCopyAt : {S : Type 0} → (S → List ℕ → Type 0) → ℕ → S → Chained S → Type 0
IsCopyAt {S = S} keeps at store c = (m : Linked S) → slice_get c.members at ≡ Some m → (volume : List ℕ) → keeps m.node.store volume → keeps store (volume_at volume m.node.state m.node.state.known)

-- Some such things happen, one after another, and clients see nothing of them: sessions keep what they kept, and members have their
-- demands, and newcomers behind them these.
pub record GoesJoining (size : ℕ) (v w : View) (more : List (List Held)) : Type 0 where
  pub happenings : List Happening
  pub each : List (List ClientEvent)
  pub era : Era size v happenings w each
  pub all : all_events each ≡ []
  pub kept : w.kept ≡ v.kept
  pub demands : map (λ m. m.demands) w.members ≡ map (λ m. m.demands) v.members ++ more

-- Whatever state of the one volume the chain stood for, what the call did can happen in such a chain, from where this was so of who joins
-- to where that is.
abbrev pub IsOfOneVolumeJoining : {S : Type 0} → (S → About) → (S → List ℕ → Type 0) → (S → List ℕ → Type 0) → (Was Is : Option Joiner → Type 0) → List (List Held) → Chained S → Chained S → Type 0
IsOfOneVolumeJoining about keeps may_leave_now Was Is more old new =
    (v : View) (s : State) → Shows about keeps may_leave_now old v → Was v.joiner → StandsFor (bytes_of old) v s
    → (w : View) × Shows about keeps may_leave_now new w × Is w.joiner × GoesJoining (bytes_of old) v w more
