-- A store whose log may be lent out: what it keeps, and what a stop may leave of it.
use Rattle.std.specs.Prelude.{◌≡◌, ℕ, ◌+◌, ◌<◌, ◌≤◌, Option, None, Some, Result, IfOk, List, [], All, take, drop}
use Rattle.disk_model.specs.Halves.{LeftBehind}
use Rattle.disk_model.specs.Part.{inside}
use Rattle.gate_journal.specs.Batch.{Batch, HoldsBatches, last_front}
use Rattle.gate_journal.specs.Journal as journal
use Rattle.gate_journal.specs.Journal.{Fits, behind_border}
use Rattle.gate_journal.specs.Receipt.{Receipt}
use Rattle.gate_journal.specs.declared.batch.TheConstants.{MAX_NUMBER}
use Rattle.gate_journal.specs.declared.refusal.Refusal.{Refusal}
use Rattle.home_blocks.specs.Places.{border_of, disk_size_of}
use Rattle.local_store.specs.Lending.{Done, IsHomeKept, Lending}
use Rattle.local_store.specs.Store.{State, IsStored, geometry_of}
use Rattle.local_store.specs.declared.lent.Lent.{Lent}

-- the journal of a store's disk, as its log half sees it
abbrev pub twin_of : State → journal.State
twin_of store = behind_border store.journal (border_of (geometry_of store))

-- the batch that is being journaled
abbrev pub batch_in : {P L : Type 0} → Lent P L → Batch
batch_in lent = record { front = lent.front; images = lent.staged.items }

-- the same, if a log is lent
abbrev pub batch_of : {P L : Type 0} → Option (Lent P L) → Batch
batch_of None = record { front = 0; images = [] }
batch_of (Some lent) = batch_in lent

-- the batch that is told of, if a log is lent
abbrev pub lent_batch : {P L : Type 0} → Option (Lent P L) → Option Batch
lent_batch None = None
lent_batch (Some lent) = Some (batch_in lent)

-- The log of a disk of so many bytes is lent out, for a batch that fits into the journal: the disk is its home half.
pub record IsLent (store : State) (size at bytes len : ℕ) (batch : Batch) : Type 0 where
  pub home : size ≡ border_of (geometry_of store)
  pub cut : at ≡ border_of (geometry_of store)
  pub whole : bytes ≡ len
  pub room : disk_size_of (geometry_of store) ≤ len
  pub within : All (λ image. image.block < (geometry_of store).blocks) batch.images
  pub limit : batch.front ≤ MAX_NUMBER
  pub fits : Fits store.journal batch.images

-- The log that was lent, with its commit done or refused: it is as long, and a receipt is of the store's slot and the
-- batch's front.
pub record IsLogOf {P L : Type 0} (store : State) (lent : Lent P L) (log_size : ℕ) (outcome : Result Receipt Refusal) : Type 0 where
  pub as_long : border_of (geometry_of store) + log_size ≡ lent.len
  pub receipt : IfOk outcome (λ receipt. receipt ≡ record { slot = store.home.superblock.slot; front = lent.front })

-- what was lent
abbrev pub lending_in : {P L : Type 0} → State → Lent P L → Lending L
lending_in store lent = record { log = lent.was.value; journal = twin_of store; batch = batch_in lent }

-- This is the commit that was lent, journaled or refused: of the log and the journal as they were, and of the batch.
abbrev pub IsCommitOf : {P L : Type 0} → State → Lent P L → Done L → Type 0
IsCommitOf store lent done = done.loan ≡ lending_in store lent

-- While its log is lent the store keeps this volume over these batches: its home half does, and whatever might have been
-- left before had them in the journal.
pub record IsKeptOver (store : State) (volume : List ℕ) (batches : List Batch) (gives : List ℕ) (may_leave left_before : List ℕ → Type 0) : Type 0 where
  pub home : IsHomeKept store volume batches gives may_leave
  pub front : store.journal.front ≡ last_front store.journal.before batches
  pub held : (c : List ℕ) → left_before c → HoldsBatches store.journal.blocks store.journal.before batches (inside store.journal.part c)

-- the store keeps this volume, its log there or lent: while it is lent, over the batches that the log had
abbrev pub Keeps : {L : Type 0} → Option L → (L → List ℕ → Type 0) → (L → journal.State → List Batch → Type 0) → State → List ℕ → List ℕ → (List ℕ → Type 0) → Type 0
Keeps None before had store volume gives may_leave = IsStored store volume gives may_leave
Keeps (Some lent) before had store volume gives may_leave = (batches : List Batch) × IsKeptOver store volume batches gives may_leave (before lent) × had lent (twin_of store) batches

-- what a stop may leave of the disk; while the log is lent, what it may leave of the home half, with a log that might have
-- been left before
abbrev pub LeftWith : {L : Type 0} → Option L → (L → ℕ) → (L → List ℕ → Type 0) → (List ℕ → Type 0) → List ℕ → Type 0
LeftWith None cut before may_leave c = may_leave c
LeftWith (Some lent) cut before may_leave c = may_leave (take (cut lent) c) × LeftBehind (cut lent) (before lent) (drop (cut lent) c)
