-- What a call that commits or flushes leaves of a member.
use Rattle.std.specs.Prelude.{◌≡◌, ◌≢◌, ℕ, ◌<◌, true, [], None, Some}
use Rattle.disk_model.specs.declared.error.DiskError.{DiskError}
use Rattle.disk_model.specs.declared.error.DiskError.TheVariants as faults
use Rattle.gate_journal.specs.Receipt.{Receipt}
use Rattle.local_store.specs.About.{About, one_commit_more}
use Rattle.local_store.specs.declared.refusal.Refusal.{Refusal}
use Rattle.local_store.specs.declared.refusal.Refusal.TheVariants as store
use Rattle.chain_steps.specs.Node.{Commit, Out}
use Rattle.chain_steps.specs.Steps.{ended, stop}
use Rattle.chain_steps.specs.declared.cause.Cause.{Cause}
use Rattle.chain_steps.specs.declared.cause.Cause.TheVariants as causes
use Rattle.chain_core.specs.Node.{Seen}

-- a member stops where memory runs out, or its disk refuses
abbrev pub IsCause : Refusal → Type 0
IsCause store.Memory = Unit {0}
IsCause (store.Device error) = Unit {0}
IsCause _ = ⊥

-- why a member stops whose store refuses so
abbrev pub cause_of : Refusal → Cause
cause_of (store.Device error) = causes.Device error
cause_of _ = causes.Memory

-- The disk refused with such an error: the store is broken, the disk has failed since, unless it had no memory, and the member
-- stopped by it.
pub record HasStoppedBy {S : Type 0} (about : S → About) (failures : S → ℕ) (Tells : DiskError → Type 0) (old new : Seen S) (out : Out) : Type 0 where
  pub error : DiskError
  pub told : Tells error
  pub broken : about new.store ≡ record (about old.store) { broken = true }
  pub failed : error ≢ faults.Memory → failures old.store < failures new.store
  pub node : new.state ≡ (stop (causes.Device error) old.state).node
  pub sent : out ≡ (stop (causes.Device error) old.state).out

-- Memory ran out: the store tells the same, and the member stopped by it.
pub record HasRunOut {S : Type 0} (about : S → About) (old new : Seen S) (out : Out) : Type 0 where
  pub tells : about new.store ≡ about old.store
  pub node : new.state ≡ (stop causes.Memory old.state).node
  pub sent : out ≡ (stop causes.Memory old.state).out

-- The commit ended: the store has its front, and the receipt is the member's.
pub record HasEnded {S : Type 0} (about : S → About) (old new : Seen S) (out : Out) (commit : Commit) (receipt : Receipt) : Type 0 where
  pub node : new.state ≡ ended commit.front old.state
  pub sent : out ≡ record { messages = []; replies = [] }
  pub receipt_is : receipt ≡ record { slot = old.state.place.slot; front = commit.front }
  pub tells : about new.store ≡ one_commit_more (about old.store) commit.front commit.images

-- The store did its work, and tells this: the member's state is as it was, and nothing goes out.
pub record HasWorked {S : Type 0} (about : S → About) (tells : About) (old new : Seen S) (out : Out) : Type 0 where
  pub node : new.state ≡ old.state
  pub sent : out ≡ record { messages = []; replies = [] }
  pub tells_so : about new.store ≡ tells

-- A commit begins: the member's state is else as it was, nothing goes out, and the store was only read.
pub record HasBegun {S : Type 0} (OnlyRead : Type 0) (old new : Seen S) (out : Out) : Type 0 where
  pub commit : Commit
  pub node : new.state ≡ record old.state { commit = Some commit; found = None }
  pub sent : out ≡ record { messages = []; replies = [] }
  pub only_read : OnlyRead
