-- What becomes of a disk on its way when an order of its joining is carried out.
use Rattle.std.specs.Prelude.{◌≡◌, ◌≢◌, ◌⊎◌, ◌≤◌, ◌==◌, ℕ, suc, Bool, true, false, Option, None, Some, is_some, not, Result, Ok, Err, IfErr, IfOk, IfSome, IsSome, OnErr, List, length, slice_get}
use Rattle.flush_barrier.specs.declared.session_id.SessionId.{SessionId}
use Rattle.local_store.specs.About.{About}
use Rattle.local_store.specs.Refusal.{IsOfFormatting}
use Rattle.local_store.specs.declared.refusal.Refusal.{Refusal}
use Rattle.gate_journal.specs.declared.batch.TheConstants.{MAX_NUMBER}
use Rattle.chain.specs.Chain.{Chained, RestsAt}
use Rattle.clients.specs.Clients.{no_one}
use Rattle.joining.specs.Copying.{HasNoted, Seen}
use Rattle.joining.specs.Giving.{GivesBlock, RefusesFinish, RefusesGiving}
use Rattle.joining.specs.Standing.{IsNoted, IsOfRecorded}
use Rattle.joining.specs.declared.refusal.NotGiven.{NotGiven}
use Rattle.joining.specs.declared.refusal.NotGiven.TheVariants as not_given
use Rattle.manager.specs.Manager.{done_of, next_of}
use Rattle.manager.specs.declared.order.Order.TheVariants as orders
use Rattle.rejoin_catchup.specs.Receiving.{disk_of}
use Rattle.rejoin_catchup.specs.Sending.{due_of}
use Rattle.world.specs.Joining.{CountsIn, CountsNobody, HasNoTail, HoldsNext, HoldsNobody, IsTailAt}
use Rattle.world.specs.Management.{Managing}
use Rattle.world.specs.Telling as telling
use Rattle.world.specs.Telling.{outputs_of}
use Rattle.world.specs.World as worlds
use Rattle.world.specs.declared.told.Told.{Told}
use Rattle.candidate.specs.Candidate as whole
use Rattle.candidate.specs.declared.candidate.Candidate.{Candidate}
use Rattle.candidate.specs.declared.candidate.Candidate.TheVariants.{Nobody, Copying, Whole, Counted, Refused}
use Rattle.candidate.specs.declared.giving.Gave.{Gave}
use Rattle.candidate.specs.declared.giving.Gave.TheVariants.{Nothing, Piece, Stopped}

-- ---- a front is noted

-- what the member of the recorded chain knows was noted; of another copying nothing is
abbrev pub NotesFront : {S D : Type 0} → Chained S → Seen D → Candidate S D → Type 0
NotesFront {D = D} chain c new =
    (IsOfRecorded chain c × ((d : Seen D) × (new ≡ Copying d) × IfSome (slice_get chain.members c.at) (λ m. HasNoted m.node.state c d)))
    ⊎ (¬ IsOfRecorded chain c × (new ≡ Copying c))

-- where the disk is given the volume
abbrev pub Notes : {S D : Type 0} → Chained S → Candidate S D → Candidate S D → Type 0
Notes chain (Copying c) new = NotesFront chain c new
Notes chain Nobody new = new ≡ Nobody
Notes chain (Whole w) new = new ≡ Whole w
Notes chain Counted new = new ≡ Counted
Notes chain (Refused disk) new = new ≡ Refused disk

-- ---- a block is given

-- what went out
abbrev pub handed_gave : Result Gave Refusal → SessionId → List ℕ
handed_gave (Ok Nothing) = no_one
handed_gave (Ok Piece) = no_one
handed_gave (Ok (Stopped told)) = telling.handed_by (outputs_of told)
handed_gave (Err refusal) = no_one

-- why nothing was given: the disk isn't given the volume, of a member of the recorded chain, at what that knows; or none is due; or the
-- member has stopped
abbrev pub GivesNothing : {S D : Type 0} → Candidate S D → worlds.Seen S → Type 0
GivesNothing {D = D} old world = (c : Seen D) → old ≡ Copying c → IsOfRecorded world.chain c → IsNoted world.chain c → (due_of c.sender ≡ None) ⊎ RestsAt c.at world.chain world.chain

module _ {S D : Type 0} (premise : Type 0) (about : S → About) (failures : S → ℕ) (keeps : S → List ℕ → Type 0) (moment : S → ℕ) (left_since : S → ℕ → List ℕ → Type 0) where
  -- a block was given, the one that was due
  pub record GivesDue (old new : Candidate S D) (world after : worlds.Seen S) : Type 0 where
    pub before : Seen D
    pub behind : Seen D
    pub block : ℕ
    pub was : old ≡ Copying before
    pub is : new ≡ Copying behind
    pub of_recorded : IsOfRecorded world.chain before
    pub noted : IsNoted world.chain before
    pub due : due_of before.sender ≡ Some block
    pub given : GivesBlock premise about failures keeps moment left_since block before behind world after

  -- the member has stopped in the call
  pub record StopsDue (why : NotGiven) (old new : Candidate S D) (world after : worlds.Seen S) : Type 0 where
    pub before : Seen D
    pub behind : Seen D
    pub was : old ≡ Copying before
    pub is : new ≡ Copying behind
    pub refused : RefusesGiving premise about failures keeps moment left_since why before behind world after

  -- the disk was refused, and gets no further
  pub record RefusesDue (refusal : Refusal) (old new : Candidate S D) (world after : worlds.Seen S) : Type 0 where
    pub before : Seen D
    pub behind : Seen D
    pub left : whole.Refused D
    pub was : old ≡ Copying before
    pub is : new ≡ Refused left
    pub its : disk_of behind.receiver ≡ Some left.disk
    pub known : IsSome left.member
    pub refused : RefusesGiving premise about failures keeps moment left_since (not_given.Refused refusal) before behind world after

  -- what became of it when the next block was to be given
  abbrev pub Gives : Result Gave Refusal → Candidate S D → Candidate S D → worlds.Seen S → worlds.Seen S → Type 0
  Gives (Ok Nothing) old new world after = (new ≡ old) × (after ≡ world) × GivesNothing old world
  Gives (Ok Piece) old new world after = GivesDue old new world after
  Gives (Ok (Stopped told)) old new world after = StopsDue (not_given.Stopped (Some told)) old new world after
  Gives (Err refusal) old new world after = RefusesDue refusal old new world after

-- this holds of the disk before and of what it is behind a refusal
abbrev pub LedOn : {S D : Type 0} → (D → D → Type 0) → Candidate S D → Candidate S D → Type 0
LedOn R (Copying c) (Refused r) = IfSome (disk_of c.receiver) (λ was. R was r.disk)
LedOn R _ _ = ⊥

-- this holds of the disk that refused
abbrev pub OfRefused : {S D : Type 0} → Candidate S D → (D → Type 0) → Type 0
OfRefused (Refused r) P = P r.disk
OfRefused _ P = ⊥

-- ---- orders

-- the order was carried out, or not
abbrev pub DoneIf : {C : Type 0} → Bool → Managing C → Managing C → Type 0
DoneIf true m n = n ≡ record m { manager = done_of m.manager }
DoneIf false m n = n ≡ m

-- nothing changed
pub record AllStay {S D C : Type 0} (old new : Candidate S D) (m n : Managing C) (world after : worlds.Seen S) : Type 0 where
  pub candidate : new ≡ old
  pub management : n ≡ m
  pub same : after ≡ world

-- whether each block was given once
abbrev pub has_given_all : {S D : Type 0} → Candidate S D → Bool
has_given_all (Copying c) = c.sender.given == length c.sender.marks
has_given_all Nobody = false
has_given_all (Whole w) = false
has_given_all Counted = false
has_given_all (Refused r) = false

-- whether no block is due
abbrev pub is_filled : {S D : Type 0} → Candidate S D → Bool
is_filled (Copying c) = not (is_some (due_of c.sender))
is_filled Nobody = false
is_filled (Whole w) = false
is_filled Counted = false
is_filled (Refused r) = false

-- the disk that was being given the volume gets no further
pub record Spoils {S D : Type 0} (old new : Candidate S D) : Type 0 where
  pub before : Seen D
  pub left : whole.Refused D
  pub was : old ≡ Copying before
  pub is : new ≡ Refused left
  pub its : disk_of before.receiver ≡ Some left.disk
  pub known : IsSome left.member

-- the disk's installation ended, and it may be counted; or it was refused
abbrev pub Finishes : {S D V : Type 0} → Result V Refusal → Candidate S D → Candidate S D → Type 0
Finishes {S = S} {D = D} (Ok v) old new = (c : Seen D) × (w : whole.Whole S) × (old ≡ Copying c) × (new ≡ Whole w)
Finishes {D = D} (Err refusal) old new = (c : Seen D) × (r : whole.Refused D) × (old ≡ Copying c) × (new ≡ Refused r) × (RefusesFinish c.broken refusal × IsSome r.member)

module _ {S D C : Type 0} (premise : Type 0) (about : S → About) (failures : S → ℕ) (keeps : S → List ℕ → Type 0) (moment : S → ℕ) (left_since : S → ℕ → List ℕ → Type 0) where
  -- Where the next order is to copy, the next block was given, or not; it is carried out once each block was given.
  pub record Copies (result : Result Gave Refusal) (old new : Candidate S D) (m n : Managing C) (world after : worlds.Seen S) : Type 0 where
    pub due : (slot : ℕ) → next_of m.manager ≡ orders.Copy slot → Gives premise about failures keeps moment left_since result old new world after
        × (IfOk result (λ _. DoneIf (has_given_all new) m n) × OnErr result (n ≡ m))
    pub idle : ((slot : ℕ) → next_of m.manager ≡ orders.Copy slot → ⊥) → (result ≡ Ok Nothing) × AllStay old new m n world after

  -- Where the next order is to give it the rest, the next block was given, or not; once none is due, the end was.
  pub record Rests (result : Result Gave Refusal) (old new : Candidate S D) (m n : Managing C) (world after : worlds.Seen S) : Type 0 where
    pub due : (slot : ℕ) → next_of m.manager ≡ orders.Rest slot → is_filled old ≡ false → Gives premise about failures keeps moment left_since result old new world after × (n ≡ m)
    pub end : (slot : ℕ) → next_of m.manager ≡ orders.Rest slot → is_filled old ≡ true → Finishes result old new × (IfOk result (λ gave. (gave ≡ Piece) × (n ≡ record m { manager = done_of m.manager })) × (OnErr result (n ≡ m) × (after ≡ world)))
    pub idle : ((slot : ℕ) → next_of m.manager ≡ orders.Rest slot → ⊥) → (result ≡ Ok Nothing) × AllStay old new m n world after

-- why no disk is attached: another order is the next, or one is on its way, or nobody is the tail, or no epoch can follow
abbrev pub AttachesNone : {S D C : Type 0} → Candidate S D → Managing C → worlds.Seen S → Type 0
AttachesNone old m world = ((slot : ℕ) → next_of m.manager ≡ orders.Attach slot → ⊥) ⊎ ((old ≢ Nobody) ⊎ (HasNoTail world.chain ⊎ (MAX_NUMBER ≤ world.chain.recorded.epoch)))

-- Where the next order is to attach a disk, and none is on its way: it will be given the volume of the tail, at this place. Or not; or
-- the disk refuses.
pub record Attaches {S D C : Type 0} (result : Result Bool Refusal) (old new : Candidate S D) (m n : Managing C) (world : worlds.Seen S) : Type 0 where
  pub attached : IfOk result (λ done. done ≡ true → (c : Seen D) × (slot : ℕ) × (old ≡ Nobody) × (new ≡ Copying c) × (next_of m.manager ≡ orders.Attach slot) × IsTailAt world.chain c.at × (n ≡ record m { manager = done_of m.manager }))
  pub idle : IfOk result (λ done. done ≡ false → AttachesNone old m world × (new ≡ old) × (n ≡ m))
  pub refused : IfErr result (λ refusal. IsOfFormatting refusal × (r : whole.Refused D) × (slot : ℕ) × (old ≡ Nobody) × (new ≡ Refused r) × (next_of m.manager ≡ orders.Attach slot) × (n ≡ m))

-- Where the next order is to hold, the tail holds the front, and what it knows was noted.
pub record Holds {S D C : Type 0} (given : Option Told) (old new : Candidate S D) (m n : Managing C) (world after : worlds.Seen S) : Type 0 where
  pub held : IfSome given (λ told. HoldsNext told m n world after)
  pub idle : given ≡ None → HoldsNobody m world × (n ≡ m) × (after ≡ world)
  pub noted : Notes after.chain old new

-- Where the next order is to count the disk, it is counted: the world has its store.
pub record Counts {S D C : Type 0} (about : S → About) (done : Bool) (old new : Candidate S D) (m n : Managing C) (world after : worlds.Seen S) : Type 0 where
  pub counted : done ≡ true → (w : whole.Whole S) × (old ≡ Whole w) × (new ≡ Counted) × ((about w.store).incarnation ≡ suc world.chain.recorded.epoch) × CountsIn about w.store w.receipt m n world after
  pub idle : done ≡ false → ((w : whole.Whole S) → old ≡ Whole w → ((about w.store).incarnation ≢ suc world.chain.recorded.epoch) ⊎ CountsNobody about w.store w.receipt m world) × AllStay old new m n world after
