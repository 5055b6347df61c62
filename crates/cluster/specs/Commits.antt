-- What a member's commit, as it is begun, lent and ended at its slot, leaves of it.
use Rattle.std.specs.Prelude.{◌≡◌, ◌⊎◌, ℕ, List, None}
use Rattle.disk_model.specs.Error.{MayTell}
use Rattle.disk_model.specs.declared.error.DiskError.TheVariants.{ReadFault}
use Rattle.flush_barrier.specs.Reply.{GivenReply}
use Rattle.local_store.specs.About.{About}
use Rattle.local_store.specs.Lending.{Lending}
use Rattle.chain_steps.specs.Node.{Out}
use Rattle.chain_steps.specs.Steps.{CanBegin}
use Rattle.chain_core.specs.Commits.{HasBegun, HasRunOut, HasStoppedBy}
use Rattle.chain_core.specs.Lending.{HasLent}
use Rattle.chain_core.specs.Node.{Seen}
use Rattle.chain_core.specs.Reads.{HasOnlyRead}
use Rattle.member.specs.Posted.{HasAnswered, Posted}
use Rattle.cluster.specs.Gives.{HasGiven}

-- the member runs, and it is the turn of a commit
abbrev pub IsDue : {S : Type 0} → Posted S → Type 0
IsDue member = (member.node.state.stopped ≡ None) × CanBegin member.node.state

-- a commit began, the store being read alone; or memory ran out, or the device refused a read, and the member stopped
abbrev pub Begins : {S : Type 0} → (premise : Type 0) → (S → About) → (S → ℕ) → (S → List ℕ → Type 0) → (S → ℕ) → (S → ℕ → List ℕ → Type 0) → Seen S → Seen S → Out → Type 0
Begins premise about failures keeps moment left_since old new out =
    HasBegun (HasOnlyRead premise about failures keeps moment left_since old.store new.store) old new out
    ⊎ HasRunOut about old new out ⊎ HasStoppedBy about failures (MayTell ReadFault) old new out

-- A commit began, if one was due; and then what was under way was lent, as this.
pub record HasLentNext {S L : Type 0} (BeginsSo : Seen S → Seen S → Out → Type 0) (about : S → About) (loan : Lending L) (old new : Posted S) (before after : List GivenReply) : Type 0 where
  pub between : Posted S
  pub middle : List GivenReply
  pub due : IsDue old → HasGiven (HasAnswered BeginsSo) old between before middle
  pub idle : ¬ IsDue old → (between ≡ old) × (middle ≡ before)
  pub lent : HasGiven (HasAnswered (λ o n out. HasLent about o n out loan)) between new middle after
