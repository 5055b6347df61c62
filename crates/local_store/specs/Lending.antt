-- What the home half of a store's disk keeps while the log half is lent out, and what is said of the commit in it.
use Rattle.std.specs.Prelude.{◌≡◌, ◌++◌, ◌+◌, ◌<◌, ◌≤◌, ◌∷◌, [], ℕ, false, List, Result, Some, IfErr, IfOk, IsErrOf, OnOk}
use Rattle.block_cache.specs.Cache.{Agrees}
use Rattle.disk_model.specs.Part.{inside, LeftInside}
use Rattle.gate_journal.specs.Batch.{AreImages, Batch}
use Rattle.gate_journal.specs.Journal as journal
use Rattle.gate_journal.specs.Journal.{Fits, IsSettled, appended}
use Rattle.gate_journal.specs.Receipt.{Receipt}
use Rattle.gate_journal.specs.Refusal.{HasCause}
use Rattle.gate_journal.specs.declared.batch.TheConstants.{MAX_NUMBER}
use Rattle.gate_journal.specs.declared.refusal.Refusal.{Refusal}
use Rattle.gate_journal.specs.declared.refusal.Refusal.TheVariants.{Memory}
use Rattle.home_blocks.specs.Home.{HoldsSuperblock, IsSettledHome}
use Rattle.home_blocks.specs.Places.{home_part}
use Rattle.home_blocks.specs.declared.progress.Progress.TheVariants.{Whole}
use Rattle.loans.specs.Sides.{Side, last_of}
use Rattle.local_store.specs.Overlay.{with_batches}
use Rattle.local_store.specs.Pending.{IsHome}
use Rattle.local_store.specs.Refusal.{IsOfJournaling}
use Rattle.local_store.specs.Store.{State, IsOfSuperblock, geometry_of}

-- The home half keeps this volume under the batches that the log holds: the superblock is settled, and whatever a stop
-- leaves of the home region is the volume under them.
pub record IsHomeKept (store : State) (volume : List ℕ) (batches : List Batch) (gives : List ℕ) (may_leave : List ℕ → Type 0) : Type 0 where
  pub stands : IsOfSuperblock store
  pub superblock : IsSettledHome store.home gives may_leave
  pub is_whole : store.home.superblock.progress ≡ Whole
  pub region : IsHome (geometry_of store).blocks volume batches store.pending (inside (home_part (geometry_of store)) gives) (LeftInside (home_part (geometry_of store)) may_leave)
  pub cached : Agrees store.cache (inside (home_part (geometry_of store)) gives)
  pub runs : store.broken ≡ false

-- the bytes hold the superblock, and a home region that is the volume under the batches
pub record HoldsHome (store : State) (volume : List ℕ) (batches : List Batch) (c : List ℕ) : Type 0 where
  pub superblock : HoldsSuperblock store.home.superblock c
  pub region : with_batches (inside (home_part (geometry_of store)) c) batches ≡ volume

-- what is lent: a log, its journal, and the batch that is to be journaled
pub record Lending (L : Type 0) : Type 0 where
  pub log : L
  pub journal : journal.State
  pub batch : Batch

-- the journal stands in the log, runs, and has room for the batch
pub record IsLending {L : Type 0} (size : L → ℕ) (lending : Lending L) : Type 0 where
  pub on_disk : lending.journal.part.start + lending.journal.part.len ≤ size lending.log
  pub are : AreImages lending.journal.blocks lending.batch.images
  pub rises : lending.journal.front < lending.batch.front
  pub limit : lending.batch.front ≤ MAX_NUMBER
  pub runs : lending.journal.broken ≡ false
  pub fits : Fits lending.journal lending.batch.images

-- a commit that was journaled or refused: what was lent for it, the borrower's side, the log now, and what came of it
pub record Done (L : Type 0) : Type 0 where
  pub loan : Lending L
  pub side : Side (Lending L)
  pub log : L
  pub outcome : Result Receipt Refusal

-- The borrower's side remembers what was lent. After Ok the log has the batches from before and the new one, and the receipt is of the
-- batch; memory that ran out changed nothing; and a refusal of the device comes of a failure.
pub record IsDone {L : Type 0} (keeps_model : Type 0) (gives : L → List ℕ) (may_leave_now : L → List ℕ → Type 0) (failures : L → ℕ) (done : Done L) : Type 0 where
  pub remembers : last_of done.side.loans ≡ Some done.loan
  pub told : IfErr done.outcome IsOfJournaling
  pub receipt : IfOk done.outcome (λ receipt. receipt ≡ record { slot = done.loan.journal.slot; front = done.loan.batch.front })
  pub settled : keeps_model → (batches : List Batch) → IsSettled done.loan.journal batches (gives done.loan.log) (may_leave_now done.loan.log)
      → OnOk done.outcome (IsSettled (appended done.loan.journal done.loan.batch.front done.loan.batch.images) (batches ++ done.loan.batch ∷ []) (gives done.log) (may_leave_now done.log))
  pub unchanged : IsErrOf done.outcome Memory → done.log ≡ done.loan.log
  pub cause : HasCause (failures done.loan.log) (failures done.log) done.outcome
