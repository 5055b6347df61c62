-- What a call that reads leaves of the store.
use Rattle.std.specs.Prelude.{◌≡◌, ◌≢◌, ◌⊎◌, ℕ, ◌%◌, ◌<◌, ◌≤◌, true, List, [], ◌∷◌, filter, fold, length, map, not, Some, None}
use Rattle.disk_model.specs.Disk.{LeavesOnly}
use Rattle.disk_model.specs.Error.{MayTell}
use Rattle.disk_model.specs.declared.error.DiskError.{DiskError}
use Rattle.disk_model.specs.declared.error.DiskError.TheVariants.{Memory, ReadFault}
use Rattle.local_store.specs.About.{About, meaning_with}
use Rattle.local_store.specs.Meaning.{Means}
use Rattle.volume.specs.Writes.{Placed, block_of, patched}
use Rattle.flush_barrier.specs.Reply.{GivenReply}
use Rattle.chain_steps.specs.Node.{NodeState, Out, Stepped}
use Rattle.chain_steps.specs.Steps.{stop}
use Rattle.chain_steps.specs.declared.cause.Cause.TheVariants as causes
use Rattle.chain_steps.specs.Waiting.{bound, is_read, reply_with}
use Rattle.chain_steps.specs.declared.waiting.Waiting.{Waiting}
use Rattle.chain_core.specs.Node.{IsRefusedBy, Seen, turned_away}
use Rattle.chain_core.specs.declared.refusal.Refusal.{Refusal}
use Rattle.chain_core.specs.declared.refusal.Refusal.TheVariants as refusals
use Rattle.chain_core.specs.declared.reading.Unread.{Unread}
use Rattle.chain_core.specs.declared.reading.Unread.TheVariants as unread

-- The device refused a read with this error: the store is broken, and the device has failed since, unless it had no memory.
pub record HasFailed {S : Type 0} (about : S → About) (failures : S → ℕ) (old new : S) (error : DiskError) : Type 0 where
  pub broken : about new ≡ record (about old) { broken = true }
  pub told : MayTell ReadFault error
  pub failed : error ≢ Memory → failures old < failures new

-- The store was only read: it tells the same, its device has failed as often, it keeps what it kept, and a stop at any moment
-- leaves what means that.
pub record HasOnlyRead {S : Type 0} (premise : Type 0) (about : S → About) (failures : S → ℕ) (keeps : S → List ℕ → Type 0) (moment : S → ℕ)
    (left_since : S → ℕ → List ℕ → Type 0) (old new : S) : Type 0 where
  pub tells : about new ≡ about old
  pub fails : failures new ≡ failures old
  pub kept : premise → (volume : List ℕ) → keeps old volume → keeps new volume
  pub run : premise → (volume : List ℕ) → keeps old volume → LeavesOnly moment left_since old new (Means (meaning_with (about old) volume))

-- These bytes may be put under the writes in place of the volume's block: the block after them is the same.
pub record IsBaseOf (volume : List ℕ) (writes : List Placed) (block : ℕ) (bytes : List ℕ) : Type 0 where
  pub under : List ℕ
  pub as_long : length under ≡ length volume
  pub is : bytes ≡ block_of under block
  pub same : block_of (fold patched under writes) block ≡ block_of (fold patched volume writes) block

-- the range is of whole blocks, at least two
abbrev pub AreBlocks : ℕ → ℕ → Type 0
AreBlocks offset len = (offset % 4096 ≡ 0) × (len % 4096 ≡ 0) × (8192 ≤ len)

-- why ranges weren't read: memory ran out, or the device refused a read
abbrev pub AreUnread : {S : Type 0} → (S → About) → (S → ℕ) → (OnlyRead : Type 0) → S → S → Unread → Type 0
AreUnread about failures OnlyRead old new unread.Memory = OnlyRead
AreUnread about failures OnlyRead old new (unread.Device error) = HasFailed about failures old new error

-- the same of a member's call: where the device refused, the member has stopped, and its tokens are still to be refused
abbrev pub AreUnreadBy : {S : Type 0} → (S → About) → (S → ℕ) → (OnlyRead : Type 0) → Seen S → Seen S → Unread → Type 0
AreUnreadBy about failures OnlyRead old new unread.Memory = OnlyRead × (new.state ≡ old.state)
AreUnreadBy about failures OnlyRead old new (unread.Device error) =
    HasFailed about failures old.store new.store error × (new.state ≡ record old.state { stopped = Some (causes.Device error); commit = None })

-- the replies to READs with these bytes
abbrev pub answered : List (List ℕ) → List Waiting → List GivenReply
answered [] ws = []
answered (bytes ∷ more) [] = []
answered (bytes ∷ more) (w ∷ ws) = reply_with bytes None w ∷ answered more ws

-- with such bytes for the READs, a front that was looked up is answered: the FLUSHes are bound to it
abbrev pub answer_with : List (List ℕ) → ℕ → NodeState → Stepped
answer_with payloads front node = record {
  node = record node { waiting = map (bound front) (filter (λ w. not (is_read w)) node.waiting); found = None };
  out = record { messages = []; replies = answered payloads (filter is_read node.waiting) };
}

-- why a range wasn't read: memory ran out before the first read, or the device refused one
abbrev pub IsUnread : {S : Type 0} → (S → About) → (S → ℕ) → S → S → Unread → Type 0
IsUnread about failures old new unread.Memory = new ≡ old
IsUnread about failures old new (unread.Device error) = HasFailed about failures old new error

-- the same of a member's call: where the device refused, the member has stopped, and its tokens are still to be refused
abbrev pub IsUnreadBy : {S : Type 0} → (S → About) → (S → ℕ) → Seen S → Seen S → Unread → Type 0
IsUnreadBy about failures old new unread.Memory = new ≡ old
IsUnreadBy about failures old new (unread.Device error) =
    HasFailed about failures old.store new.store error × (new.state ≡ record old.state { stopped = Some (causes.Device error); commit = None })

-- The call is exactly this step, over each volume that the store keeps under the premise.
pub record IsStepOver (premise : Type 0) (keeps : List ℕ → Type 0) (new : NodeState) (out : Out) (step : List ℕ → Stepped) : Type 0 where
  pub node : (volume : List ℕ) → new ≡ (step volume).node
  pub sent : premise → (volume : List ℕ) → keeps volume → out ≡ (step volume).out

-- The device refused a read, and the member stopped by it.
pub record HasBrokenOff {S : Type 0} (about : S → About) (failures : S → ℕ) (old new : Seen S) (out : Out) : Type 0 where
  pub error : DiskError
  pub failed : HasFailed about failures old.store new.store error
  pub node : new.state ≡ (stop (causes.Device error) old.state).node
  pub sent : out ≡ (stop (causes.Device error) old.state).out

-- Memory ran out behind the reads: the member's state is as it was.
pub record HasReadInVain {S : Type 0} (OnlyRead : Type 0) (old new : Seen S) (replies : List GivenReply) : Type 0 where
  pub state : new.state ≡ old.state
  pub store : OnlyRead
  pub replies_none : replies ≡ []

-- why a READ's token comes back: it was turned away, or memory ran out; or, where it `Reads`, memory ran out behind the reads,
-- or the device refused
abbrev pub IsReadRefused : {S : Type 0} → (S → About) → (S → ℕ) → (OnlyRead Reads : Type 0) → Seen S → Seen S → List GivenReply → Refusal → Type 0
IsReadRefused about failures OnlyRead Reads old new replies refusal =
    IsRefusedBy ⊥ (stop causes.Told old.state) old new replies refusal
    ⊎ (((refusal ≡ refusals.Memory) × (turned_away old.state ≡ None) × Reads × HasReadInVain OnlyRead old new replies)
    ⊎ ((refusal ≡ refusals.Stopped) × (turned_away old.state ≡ None) × Reads × HasBrokenOff about failures old new (record { messages = []; replies = replies })))

-- The member's state and what went out are those after this step.
pub record IsStepTo (new : NodeState) (out : Out) (stepped : Stepped) : Type 0 where
  pub node : new ≡ stepped.node
  pub sent : out ≡ stepped.out
