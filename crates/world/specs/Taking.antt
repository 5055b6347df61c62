-- What a member does with the first demand of its sessions.
use Rattle.std.specs.Prelude.{◌≡◌, ◌⊎◌, ℕ, ◌<◌, Bool, true, false, Some, List, [], ◌∷◌, ◌++◌, slice_get, slice_set}
use Rattle.flush_barrier.specs.Owed.{Owed}
use Rattle.flush_barrier.specs.Reply.{GivenReply}
use Rattle.flush_barrier.specs.declared.error_code.ErrorCode.{ErrorCode}
use Rattle.flush_barrier.specs.declared.error_code.ErrorCode.TheVariants.{Io, NoMemory}
use Rattle.gate_journal.specs.declared.batch.TheConstants.{MAX_NUMBER}
use Rattle.local_store.specs.About.{About}
use Rattle.nbd_session.specs.Demand.{owed_by}
use Rattle.nbd_session.specs.declared.demand.Demand.{Demand}
use Rattle.nbd_session.specs.declared.demand.Demand.TheVariants as demands
use Rattle.volume.specs.Writes.{Placed}
use Rattle.chain_steps.specs.Steps.{flush, stop}
use Rattle.chain_steps.specs.declared.cause.Cause.TheVariants.{LastTicket}
use Rattle.chain_steps.specs.declared.waiting.WriteToken.{WriteToken}
use Rattle.chain_steps.specs.declared.waiting.WriteToken.TheVariants as tokens
use Rattle.chain_core.specs.declared.refusal.Refusal.{Refusal}
use Rattle.chain_core.specs.declared.refusal.Refusal.TheVariants.{Memory, Full, NotMember, Early, Busy, Stopped}
use Rattle.chain.specs.Asking.{HasFlushed, HasPleaAt, HasRead, HasSubmitted, IsTurnedAway, IsUnreadAt, ReadsSo}
use Rattle.chain.specs.Chain.{Chained, Changes}
use Rattle.world.specs.Telling.{Tells}
use Rattle.world.specs.World.{Seen}
use Rattle.world.specs.declared.told.Told.{Told}

-- with which error a client is told that a member refused its demand
abbrev pub code_of : Refusal → ErrorCode
code_of Memory = NoMemory
code_of Full = Io
code_of NotMember = Io
code_of Early = Io
code_of Busy = Io
code_of Stopped = Io

-- the first of the demands asks for a floor: a write with FUA, or a FLUSH
abbrev pub asks_floor : List Demand → Bool
asks_floor [] = false
asks_floor (demands.Read token offset len ∷ rest) = false
asks_floor (demands.Write token write ∷ rest) = false
asks_floor (demands.Fua token write ∷ rest) = true
asks_floor (demands.Flush token ∷ rest) = true

-- the reply that a write's token owes
abbrev pub owed_of : WriteToken → Owed
owed_of (tokens.Plain token) = token
owed_of (tokens.Fua token) = record { session = token.session; cookie = token.cookie; board = token.board }

-- the reply that tells it
abbrev pub refusing : Owed → Refusal → GivenReply
refusing owed refusal = record { session = owed.session; cookie = owed.cookie; error = Some (code_of refusal); payload = [] }

-- the member at the place took the write
abbrev pub HasTakenWrite : {S : Type 0} → ℕ → WriteToken → Placed → List GivenReply → Chained S → Chained S → Type 0
HasTakenWrite at token write replies old new = HasSubmitted at token write old new × (replies ≡ [])

-- it refused the write, and gave these other replies
abbrev pub HasRefusedWrite : {S : Type 0} → ℕ → List GivenReply → Refusal → Chained S → Chained S → Type 0
HasRefusedWrite at others refusal old new = Changes at old new (λ one other. IsTurnedAway (MAX_NUMBER < one.node.state.ticket) (stop LastTicket one.node.state) others refusal one other)

-- the member at the place took the demand, with these replies
abbrev pub HasTaken : {S : Type 0} → (premise : Type 0) → (S → About) → (S → List ℕ → Type 0) → (S → ℕ) → (S → ℕ → List ℕ → Type 0) → ℕ → Demand → List GivenReply → Chained S → Chained S → Type 0
HasTaken premise about keeps moment left_since at (demands.Read token offset len) replies old new =
    Changes at old new (HasRead (ReadsSo premise about keeps moment left_since offset len token) replies)
HasTaken premise about keeps moment left_since at (demands.Write token write) replies old new = HasTakenWrite at (tokens.Plain token) write replies old new
HasTaken premise about keeps moment left_since at (demands.Fua token write) replies old new = HasTakenWrite at (tokens.Fua token) write replies old new
HasTaken premise about keeps moment left_since at (demands.Flush token) replies old new = Changes at old new (HasFlushed token) × (replies ≡ [])

-- it refused the demand, and gave these other replies
abbrev pub HasRefused : {S : Type 0} → (premise : Type 0) → (S → About) → (S → ℕ) → (S → List ℕ → Type 0) → (S → ℕ) → (S → ℕ → List ℕ → Type 0) → ℕ → Demand → List GivenReply → Refusal → Chained S → Chained S → Type 0
HasRefused premise about failures keeps moment left_since at (demands.Read token offset len) others refusal old new =
    Changes at old new (IsUnreadAt premise about failures keeps moment left_since offset len others refusal)
HasRefused premise about failures keeps moment left_since at (demands.Write token write) others refusal old new = HasRefusedWrite at others refusal old new
HasRefused premise about failures keeps moment left_since at (demands.Fua token write) others refusal old new = HasRefusedWrite at others refusal old new
HasRefused premise about failures keeps moment left_since at (demands.Flush token) others refusal old new =
    Changes at old new (λ one other. IsTurnedAway ⊥ (flush token one.node.state) others refusal one other)

-- The member at the place took the first demand of its sessions; or refused it, for memory or since it has stopped, and its client is told so
-- behind the other replies.
pub record Takes {S : Type 0} (premise : Type 0) (about : S → About) (failures : S → ℕ) (keeps : S → List ℕ → Type 0) (moment : S → ℕ) (left_since : S → ℕ → List ℕ → Type 0)
    (at : ℕ) (told : Told) (old new : Seen S) : Type 0 where
  pub demand : Demand
  pub rest : List Demand
  pub replies : List GivenReply
  pub here : slice_get old.queues at ≡ Some (demand ∷ rest)
  pub did : HasTaken premise about keeps moment left_since at demand replies old.chain new.chain
      ⊎ ((others : List GivenReply) × (refusal : Refusal) × HasRefused premise about failures keeps moment left_since at demand others refusal old.chain new.chain × HasPleaAt at new.chain refusal × (replies ≡ others ++ refusing (owed_by demand) refusal ∷ []))
  pub tells : Tells told replies old.sessions new.sessions
  pub are : new ≡ record old { chain = new.chain; sessions = new.sessions; queues = slice_set old.queues at rest }
