-- What a call that lends a commit out, or takes it back, leaves of a member.
use Rattle.std.specs.Prelude.{◌≡◌, true, None, Some, IsSome, IfSome, []}
use Rattle.gate_journal.specs.Receipt.{Receipt}
use Rattle.local_store.specs.About.{About, one_commit_more}
use Rattle.local_store.specs.Lending.{Lending}
use Rattle.chain_steps.specs.Node.{Out}
use Rattle.chain_steps.specs.Steps.{ended, stop}
use Rattle.chain_steps.specs.declared.cause.Cause.{Cause}
use Rattle.chain_core.specs.Node.{Seen}

-- a commit is under way, and isn't lent
abbrev pub CanLend : {S : Type 0} → (S → About) → Seen S → Type 0
CanLend about member = IsSome member.state.commit × ((about member.store).lent ≡ None)

-- The commit under way is lent: the store tells so, and the member's state is as it was.
pub record HasLent {S L : Type 0} (about : S → About) (old new : Seen S) (out : Out) (loan : Lending L) : Type 0 where
  pub node : new.state ≡ old.state
  pub sent : out ≡ record { messages = []; replies = [] }
  pub under_way : old.state.commit ≡ Some (record { front = loan.batch.front; images = loan.batch.images })
  pub home : (about old.store).lent ≡ None
  pub tells : about new.store ≡ record (about old.store) { lent = Some loan.batch }

-- The commit under way ended: the store has its front, and its log, and the receipt is the member's.
pub record HasFinished {S : Type 0} (about : S → About) (old new : Seen S) (out : Out) (receipt : Receipt) : Type 0 where
  pub ran : old.state.stopped ≡ None
  pub node : new.state ≡ ended receipt.front old.state
  pub sent : out ≡ record { messages = []; replies = [] }
  pub slot : receipt.slot ≡ old.state.place.slot
  pub tells : IfSome old.state.commit (λ commit. (receipt.front ≡ commit.front) × (about new.store ≡ record (one_commit_more (about old.store) commit.front commit.images) { lent = None }))
  pub under_way : IsSome old.state.commit

-- The member stopped by this cause, and its store tells this.
pub record HasHalted {S : Type 0} (about : S → About) (tells : About) (cause : Cause) (old new : Seen S) (out : Out) : Type 0 where
  pub tells_so : about new.store ≡ tells
  pub node : new.state ≡ (stop cause old.state).node
  pub sent : out ≡ (stop cause old.state).out

-- A stopped member has its log back: its store is broken.
pub record HasTakenBack {S : Type 0} (about : S → About) (old new : Seen S) (out : Out) : Type 0 where
  pub node : new.state ≡ old.state
  pub sent : out ≡ record { messages = []; replies = [] }
  pub tells : about new.store ≡ record (about old.store) { broken = true; lent = None }
