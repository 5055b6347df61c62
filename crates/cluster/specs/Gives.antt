-- What a call of a member at its slot gives.
use Rattle.std.specs.Prelude.{◌≡◌, ◌⊎◌, ◌++◌, ℕ, List, None, IsTrue}
use Rattle.std.specs.List.{list_any}
use Rattle.board.specs.Floor.{IsRead}
use Rattle.board.specs.Seats.{BoardId, FoundCrew, FoundFloor, SeatView}
use Rattle.flush_barrier.specs.Reply.{GivenReply}
use Rattle.local_store.specs.About.{About}
use Rattle.chain_steps.specs.Node.{NodeState, Out, Refused}
use Rattle.chain_steps.specs.Steps.{answer_floor, answer_front, deliver, hold, raised, stop}
use Rattle.chain_steps.specs.Waiting.{asks_floor, asks_front}
use Rattle.chain_steps.specs.declared.cause.Cause.TheVariants as causes
use Rattle.chain_steps.specs.declared.message.Envelope.{Envelope}
use Rattle.chain_steps.specs.declared.found.Found.TheVariants.{Looked, Raised}
use Rattle.chain_core.specs.Node.{IsDelivered, IsInside, IsStep, IsStepOrStop, Keeps, Seen, may_raise}
use Rattle.chain_core.specs.Reads.{HasBrokenOff, HasOnlyRead, IsStepOver, IsStepTo}
use Rattle.member.specs.Posted.{HasAnswered, HasPosted, OrRanOut, Posted}

-- The call is such a call of the member, and its replies are given, behind those from before.
pub record HasGiven {S : Type 0} (Calls : Posted S → Posted S → List GivenReply → Type 0) (old new : Posted S) (before after : List GivenReply) : Type 0 where
  pub replies : List GivenReply
  pub calls : Calls old new replies
  pub given : after ≡ before ++ replies

-- The call refuses a token, as this says of the replies that it gave meanwhile, which are given.
abbrev pub HasRefused : (List GivenReply → Type 0) → List GivenReply → List GivenReply → Type 0
HasRefused Refuses before after = (replies : List GivenReply) × Refuses replies × (after ≡ before ++ replies)

-- the member runs, and a token waits at it for a front
abbrev pub AsksFront : {S : Type 0} → Posted S → Type 0
AsksFront member = (member.node.state.stopped ≡ None) × IsTrue (list_any asks_front member.node.state.waiting)

-- the member runs, and a token waits at it for a floor
abbrev pub AsksFloor : {S : Type 0} → Posted S → Type 0
AsksFloor member = (member.node.state.stopped ≡ None) × IsTrue (list_any asks_floor member.node.state.waiting)

-- the member takes a message; one whose write doesn't lie in the volume stops it
abbrev pub IsDeliveredOf : {S : Type 0} → ℕ → ℕ → Envelope → Posted S → Posted S → List GivenReply → Type 0
IsDeliveredOf size from envelope old new replies =
    (IsInside size envelope.message → HasPosted (OrRanOut (λ o n out. IsDelivered o n out (deliver from envelope o.state))) old new replies)
    × (¬ IsInside size envelope.message → HasPosted (λ o n out. IsStep o n out (stop causes.Disorder o.state)) old new replies)

-- the message is of a later epoch, or finds no place in the table
abbrev pub IsKeptBack : ℕ → Envelope → NodeState → Type 0
IsKeptBack from envelope state = (deliver from envelope state ≡ Refused 152) ⊎ (deliver from envelope state ≡ Refused 153)

-- the tokens that a floor of this front reaches are answered
abbrev pub HasPaid : {S : Type 0} → ℕ → Posted S → Posted S → List GivenReply → Type 0
HasPaid floor = HasAnswered (λ old new out. IsStepOrStop old new out (answer_floor floor old.state))

-- the tail takes the front that it raised
abbrev pub HasTakenRaised : {S : Type 0} → Posted S → Posted S → List GivenReply → Type 0
HasTakenRaised = HasPosted (OrRanOut (λ old new out. IsStepOrStop old new out (raised old.state)))

-- it runs, and is a tail that may raise the front
abbrev pub CanRaise : {S : Type 0} → Posted S → Type 0
CanRaise member = (member.node.state.stopped ≡ None) × IsTrue (may_raise member.node.state)

-- The member raised the board's front, and took what it found there for its known commit.
pub record HasRaised {S : Type 0} (board : BoardId) (seat : ℕ) (old new : Posted S) (before after : List GivenReply) : Type 0 where
  pub front : ℕ
  pub between : Posted S
  pub found : Keeps Raised board seat front old.node between.node
  pub unsent : between.outbox ≡ old.outbox
  pub took : HasGiven HasTakenRaised between new before after

-- The member was answered by a floor that the seat has read.
pub record HasLookedAndPaid {S : Type 0} (seat : SeatView) (old new : Posted S) (before after : List GivenReply) : Type 0 where
  pub crew : FoundCrew
  pub floor : FoundFloor
  pub looked : SeatView
  pub read : IsRead crew looked seat floor
  pub paid : HasGiven (HasPaid floor.front) old new before after

-- with a front that was looked up the tokens that wait for one are gone on with, over the volumes that the store keeps; or the member
-- stopped, since memory ran out or the device refused a read
abbrev pub GoesOn : {S : Type 0} → (premise : Type 0) → (S → About) → (S → ℕ) → (S → List ℕ → Type 0) → (S → ℕ) → (S → ℕ → List ℕ → Type 0) → Seen S → Seen S → Out → Type 0
GoesOn premise about failures keeps moment left_since old new out =
    (HasOnlyRead premise about failures keeps moment left_since old.store new.store
    × (IsStepOver premise (keeps old.store) new.state out (λ volume. answer_front volume old.state) ⊎ IsStepTo new.state out (stop causes.Memory old.state)))
    ⊎ HasBrokenOff about failures old new out

-- A front was looked up at the board, and such a call was made with it.
pub record HasLooked {S : Type 0} (Calls : Posted S → Posted S → List GivenReply → Type 0) (board : BoardId) (seat : ℕ) (old new : Posted S) (before after : List GivenReply) : Type 0 where
  pub front : ℕ
  pub between : Posted S
  pub found : Keeps Looked board seat front old.node between.node
  pub unsent : between.outbox ≡ old.outbox
  pub called : HasGiven Calls between new before after

-- where a token waits for a front, one was looked up and gone on with; else nothing changed
abbrev pub HasLookedIfAsked : {S : Type 0} → (Posted S → Posted S → List GivenReply → Type 0) → BoardId → ℕ → Posted S → Posted S → List GivenReply → List GivenReply → Type 0
HasLookedIfAsked Calls board seat old new before after =
    (AsksFront old → HasLooked Calls board seat old new before after)
    × (¬ AsksFront old → (new ≡ old) × (after ≡ before))

-- The member took a request, and then went on with a front where a token waits for one.
pub record HasAsked {S : Type 0} (Asks : Posted S → Posted S → List GivenReply → Type 0) (Looks : Posted S → Posted S → List GivenReply → List GivenReply → Type 0)
    (old new : Posted S) (before after : List GivenReply) : Type 0 where
  pub between : Posted S
  pub middle : List GivenReply
  pub asked : HasGiven Asks old between before middle
  pub looked : Looks between new middle after

-- the tail holds the front that it looked up
abbrev pub Holds : {S : Type 0} → Posted S → Posted S → List GivenReply → Type 0
Holds = HasPosted (OrRanOut (λ old new out. IsStepOrStop old new out (hold old.state)))
