-- What a member's commits, and its end, leave of it.
use Rattle.std.specs.Prelude.{◌≡◌, ◌≢◌, ◌⊎◌, ◌↔◌, ℕ, true, None, Some, Option, Ok, Err, Result, List, [], Any, IfNone, IfSome, IsSomeAnd, slice_get, slice_set}
use Rattle.disk_model.specs.Disk.{LeavesOnly}
use Rattle.disk_model.specs.declared.error.DiskError.TheVariants.{ReadFault, WriteFault}
use Rattle.disk_model.specs.Error.{MayTell}
use Rattle.flush_barrier.specs.Reply.{GivenReply}
use Rattle.gate_journal.specs.Receipt.{Receipt}
use Rattle.gate_journal.specs.Image.{Image}
use Rattle.gate_journal.specs.declared.batch.TheConstants.{MAX_NUMBER}
use Rattle.local_store.specs.About.{About, HasRoom, IsOneLess, meaning_with, one_checkpoint_more}
use Rattle.local_store.specs.Meaning.{Means}
use Rattle.chain_steps.specs.Node.{Out, is_stopped}
use Rattle.chain_steps.specs.Steps.{Begins, CanBegin, IsGroup, stop, volume_at}
use Rattle.chain_steps.specs.declared.cause.Cause.TheVariants.{Told}
use Rattle.chain_core.specs.Commits.{HasBegun, HasEnded, HasRunOut, HasStoppedBy, HasWorked}
use Rattle.chain_core.specs.Node.{Seen}
use Rattle.chain_core.specs.Reads.{HasOnlyRead}
use Rattle.chain_model.specs.View.{Member}
use Rattle.chain.specs.Chain.{Chained, bytes_of}
use Rattle.chain.specs.LoneBoard.{Lone, posted}
use Rattle.chain.specs.Member.{IsLeft, IsShown, Linked}

-- the replies of a call that may be refused: none then
abbrev pub replies_of : {T E : Type 0} → (T → List GivenReply) → Result T E → List GivenReply
replies_of replies (Ok t) = replies t
replies_of replies (Err e) = []

-- The member ran, and stopped since it was told to, with these replies.
pub record HasStoppedTold {S : Type 0} (replies : List GivenReply) (old new : Linked S) : Type 0 where
  pub runs : old.node.state.stopped ≡ None
  pub told : replies ≡ (stop Told old.node.state).out.replies
  pub are : new ≡ record old { node = record old.node { state = (stop Told old.node.state).node } }

-- ---- the store works

-- The store wrote the next pending block home, if there is one, with this number; or the disk refused, and the member stopped.
pub record HasTicked {S : Type 0} (premise : Type 0) (about : S → About) (is_pending : S → ℕ → Type 0) (failures : S → ℕ) (keeps : S → List ℕ → Type 0) (old new : Seen S) (out : Out) (given : Option ℕ) : Type 0 where
  pub worked : HasWorked about (about old.store) old new out ⊎ ((given ≡ None) × HasStoppedBy about failures (MayTell WriteFault) old new out)
  pub home : IfSome given (λ block. IsOneLess block (is_pending old.store) (is_pending new.store))
  pub none : new.state.stopped ≡ None → IfNone given ((b : ℕ) → is_pending old.store b → ⊥)
  pub still : is_stopped new.state ≡ true → (b : ℕ) → is_pending new.store b ↔ is_pending old.store b
  pub kept : premise → (volume : List ℕ) → keeps old.store volume → new.state.stopped ≡ None → keeps new.store volume
  pub fails : new.state.stopped ≡ None → failures new.store ≡ failures old.store

-- The store wrote all pending blocks home, and emptied its area; or the disk refused, and the member stopped.
pub record HasCheckpointed {S : Type 0} (premise : Type 0) (about : S → About) (is_pending : S → ℕ → Type 0) (failures : S → ℕ) (keeps : S → List ℕ → Type 0) (old new : Seen S) (out : Out) : Type 0 where
  pub worked : HasWorked about (one_checkpoint_more (about old.store)) old new out ⊎ HasStoppedBy about failures (λ error. error ≢ ReadFault) old new out
  pub empty : new.state.stopped ≡ None → (b : ℕ) → is_pending new.store b → ⊥
  pub kept : premise → (volume : List ℕ) → keeps old.store volume → new.state.stopped ≡ None → keeps new.store volume
  pub fails : new.state.stopped ≡ None → failures new.store ≡ failures old.store

-- No number is left for another superblock: the store tells and keeps what it did.
pub record HasNoNumber {S : Type 0} (about : S → About) (is_pending : S → ℕ → Type 0) (keeps : S → List ℕ → Type 0) (old new : Linked S) : Type 0 where
  pub runs : old.node.state.stopped ≡ None
  pub used_up : (about old.node.store).stores ≡ MAX_NUMBER
  pub tells : about new.node.store ≡ about old.node.store
  pub kept : (volume : List ℕ) → keeps old.node.store volume → keeps new.node.store volume
  pub still : (b : ℕ) → is_pending new.node.store b ↔ is_pending old.node.store b
  pub are : new ≡ record old { node = record old.node { store = new.node.store } }

-- the member at the place runs, and no number is left for another superblock of its store
pub record IsUsedUpAt {S : Type 0} (about : S → About) (at : ℕ) (old : Chained S) : Type 0 where
  pub member : Linked S
  pub here : slice_get old.members at ≡ Some member
  pub runs : member.node.state.stopped ≡ None
  pub used_up : (about member.node.store).stores ≡ MAX_NUMBER

-- ---- a commit begins

-- why a member that runs begins none: one is under way, or it knows of no write that isn't durable
abbrev pub IsOutOfTurn : {S : Type 0} → Linked S → Type 0
IsOutOfTurn m = ¬ CanBegin m.node.state

-- It was the turn, and a commit began, of the greatest group of at most so many writes; or memory ran out or the disk refused, and the
-- member stopped.
pub record HasBegunCommits {S : Type 0} (premise : Type 0) (about : S → About) (failures : S → ℕ) (keeps : S → List ℕ → Type 0) (moment : S → ℕ) (left_since : S → ℕ → List ℕ → Type 0)
    (most : ℕ) (old new : Seen S) (out : Out) : Type 0 where
  pub can : CanBegin old.state
  pub begun : premise → (volume : List ℕ) → keeps old.store volume → new.state.stopped ≡ None → Begins (HasRoom (about old.store)) volume most old.state new.state
  pub worked : HasBegun (HasOnlyRead premise about failures keeps moment left_since old.store new.store) old new out
      ⊎ HasRunOut about old new out ⊎ HasStoppedBy about failures (MayTell ReadFault) old new out
  pub kept : premise → (volume : List ℕ) → keeps old.store volume → new.state.stopped ≡ None → keeps new.store volume

-- It is the turn, but the area has no room for a group of at most so many writes: the store was only read.
pub record HasNoGroup {S : Type 0} (premise : Type 0) (about : S → About) (failures : S → ℕ) (keeps : S → List ℕ → Type 0) (moment : S → ℕ) (left_since : S → ℕ → List ℕ → Type 0)
    (most : ℕ) (old new : Linked S) : Type 0 where
  pub runs : old.node.state.stopped ≡ None
  pub can : CanBegin old.node.state
  pub none : (volume : List ℕ) (q : ℕ) (images : List Image) → IsGroup (HasRoom (about old.node.store)) volume most old.node.state q images → ⊥
  pub only_read : HasOnlyRead premise about failures keeps moment left_since old.node.store new.node.store
  pub are : new ≡ record old { node = record old.node { store = new.node.store } }

-- ---- a commit ends

-- the receipt that a member has then
abbrev pub kept_of : Option Receipt → Option Receipt → Option Receipt
kept_of None old = old
kept_of (Some receipt) old = Some receipt

-- why a member that runs ends none: none is under way
abbrev pub HasNoCommit : {S : Type 0} → Linked S → Type 0
HasNoCommit m = m.node.state.commit ≡ None

-- The commit under way ended, and the receipt is kept; or memory ran out or the disk refused, and the member stopped.
pub record HasEndedCommit {S : Type 0} (premise : Type 0) (about : S → About) (is_pending : S → ℕ → Type 0) (failures : S → ℕ) (keeps : S → List ℕ → Type 0) (replies : List GivenReply) (old new : Linked S) : Type 0 where
  pub out : Out
  pub given : Option Receipt
  pub runs : old.node.state.stopped ≡ None
  pub told : out.replies ≡ replies
  pub are : new ≡ record old { node = new.node; receipt = kept_of given old.receipt }
  pub had : HasNoCommit old → ⊥
  pub ended : IfSome old.node.state.commit (λ commit. IfSome given (HasEnded about old.node new.node out commit))
  pub stopped : IfSome old.node.state.commit (λ commit. IfNone given (HasRunOut about old.node new.node out ⊎ HasStoppedBy about failures (λ error. error ≢ ReadFault) old.node new.node out))
  pub pends : IfSome old.node.state.commit (λ commit. IfSome given (λ receipt. (b : ℕ) → is_pending new.node.store b ↔ (is_pending old.node.store b ⊎ Any (λ image. image.block ≡ b) commit.images)))
  pub still : IfSome old.node.state.commit (λ commit. IfNone given ((b : ℕ) → is_pending new.node.store b ↔ is_pending old.node.store b))
  pub kept : premise → (volume : List ℕ) → keeps old.node.store volume → IfSome given (λ receipt. keeps new.node.store (volume_at volume old.node.state receipt.front))
  pub fails : IfSome given (λ receipt. failures new.node.store ≡ failures old.node.store)

-- ---- a receipt is posted

-- The member runs and had a receipt, which is on the board now.
pub record HasPosted {S : Type 0} (old new : Linked S) (board then : Lone) : Type 0 where
  pub receipt : Receipt
  pub runs : old.node.state.stopped ≡ None
  pub had : old.receipt ≡ Some receipt
  pub are : new ≡ record old { receipt = None }
  pub board_is : then ≡ record board { words = posted board.words receipt }

-- the member has stopped, or has no receipt
abbrev pub HasNoReceipt : {S : Type 0} → Linked S → Type 0
HasNoReceipt m = (is_stopped m.node.state ≡ true) ⊎ (m.receipt ≡ None)

-- The member at the place ran and had a receipt: its slot's gauge is raised to its front, if it was below.
pub record PostsAt {S : Type 0} (at : ℕ) (old new : Chained S) : Type 0 where
  pub member : Linked S
  pub receipt : Receipt
  pub here : slice_get old.members at ≡ Some member
  pub runs : member.node.state.stopped ≡ None
  pub had : member.receipt ≡ Some receipt
  pub are : new ≡ record old { words = posted old.words receipt; members = slice_set old.members at (record member { receipt = None }) }

-- The member at the place has stopped, or has no receipt, and nothing changed.
pub record PostsNone {S : Type 0} (at : ℕ) (old new : Chained S) : Type 0 where
  pub member : Linked S
  pub here : slice_get old.members at ≡ Some member
  pub none : HasNoReceipt member
  pub same : new ≡ old

-- ---- what a stop leaves

-- a content means what the member's store kept, this volume at its front
abbrev pub MeansOld : {S : Type 0} → (S → About) → Linked S → List ℕ → List ℕ → Type 0
MeansOld about before volume c = Means (meaning_with (about before.node.store) volume) c

-- or the volume at the front of the commit that was under way
abbrev pub MeansEither : {S : Type 0} → (S → About) → Linked S → List ℕ → List ℕ → Type 0
MeansEither about before volume c =
    MeansOld about before volume c
    ⊎ IsSomeAnd before.node.state.commit (λ commit. Means (meaning_with (record (about before.node.store) { front = commit.front }) (volume_at volume before.node.state commit.front)) c)

-- A stop at any moment of the call leaves of the store of the member at the place what means that, of what the store kept before; which
-- is, as the member was shown before the call, some front from the durable one to the known commit, with the volume there.
pub record StopsAt {S : Type 0} (IsMeant : Linked S → List ℕ → List ℕ → Type 0) (about : S → About) (keeps : S → List ℕ → Type 0) (may_leave_now : S → List ℕ → Type 0) (moment : S → ℕ) (left_since : S → ℕ → List ℕ → Type 0)
    (at : ℕ) (old new : Chained S) : Type 0 where
  pub before : Linked S
  pub after : Linked S
  pub here : slice_get old.members at ≡ Some before
  pub there : slice_get new.members at ≡ Some after
  pub means : (volume : List ℕ) → keeps before.node.store volume → LeavesOnly moment left_since before.node.store after.node.store (IsMeant before volume)
  pub leaves : (shown : Member) → IsShown about keeps may_leave_now (bytes_of old) before shown
      → LeavesOnly moment left_since before.node.store after.node.store (IsLeft (about before.node.store) shown.volume before.node.state)

-- the content means what it meant before
abbrev pub LeavesAt : {S : Type 0} → (S → About) → (S → List ℕ → Type 0) → (S → List ℕ → Type 0) → (S → ℕ) → (S → ℕ → List ℕ → Type 0) → ℕ → Chained S → Chained S → Type 0
LeavesAt about keeps may_leave_now moment left_since at old new = StopsAt (MeansOld about) about keeps may_leave_now moment left_since at old new

-- or what the commit makes of it
abbrev pub EndsAt : {S : Type 0} → (S → About) → (S → List ℕ → Type 0) → (S → List ℕ → Type 0) → (S → ℕ) → (S → ℕ → List ℕ → Type 0) → ℕ → Chained S → Chained S → Type 0
EndsAt about keeps may_leave_now moment left_since at old new = StopsAt (MeansEither about) about keeps may_leave_now moment left_since at old new
