-- What contracts see of a journal, and what its disk then holds.
use Rattle.std.specs.Prelude.{◌≡◌, ℕ, ◌+◌, ◌-◌, ◌^◌, ◌<◌, ◌≤◌, Bool, false, List, length}
use Rattle.std.proofs.Common.{arith}
use Rattle.disk_model.specs.Disk.{Only}
use Rattle.disk_model.specs.Frames.{settled_still}
use Rattle.disk_model.specs.Part.{inside, KeepsPart, LeftInside}
use Rattle.disk_model.specs.declared.part.Part.{Part}
use Rattle.gate_journal.specs.Batch.{Batch, IsBatch, batch_size, encoding_behind_gate, held_as, last_front, HoldsBatches}
use Rattle.gate_journal.specs.Image.{Image}

-- a journal in a part of a disk, for the blocks of the member at a slot: the front before its first batch and that
-- of the last one, the place of the closed gate behind it, and whether a device call failed
pub record State : Type 0 where
  pub part : Part
  pub slot : ℕ
  pub blocks : ℕ
  pub before : ℕ
  pub front : ℕ
  pub end : ℕ
  pub broken : Bool

-- a batch of these images fits behind the last one, with a closed gate behind it
abbrev pub Fits : State → List Image → Type 0
Fits journal images = journal.end + batch_size images + 1 ≤ journal.part.len

-- it doesn't
abbrev pub IsTooMuch : State → List Image → Type 0
IsTooMuch journal images = journal.part.len < journal.end + batch_size images + 1

-- a batch whose images take so many bytes fits
abbrev pub HasRoom : State → ℕ → Type 0
HasRoom journal size = journal.end + 13 + size + 1 ≤ journal.part.len

-- it doesn't
abbrev pub HasNoRoom : State → ℕ → Type 0
HasNoRoom journal size = journal.part.len < journal.end + 13 + size + 1

-- the journal with one batch more
abbrev pub appended : State → ℕ → List Image → State
appended journal front images = record journal { front = front; end = journal.end + batch_size images }

-- a part that begins at a border or behind it ends where numbers do, seen from the border too
pub behind_fits : (border : ℕ) (part : Part) → part.start - border + part.len < 2 ^ 64
behind_fits border part = omega (arith, part.fits)

-- the part as the disk sees it that begins at the border
abbrev pub part_behind : Part → ℕ → Part
part_behind part border = record { start = part.start - border; len = part.len; fits = behind_fits border part }

-- and the journal in it
abbrev pub behind_border : State → ℕ → State
behind_border journal border = record journal { part = part_behind journal.part border }

-- The part holds these batches, the journal knows where they end, and a stop now leaves the part as it is.
pub record IsSettled (journal : State) (batches : List Batch) (gives : List ℕ) (may_leave : List ℕ → Type 0) : Type 0 where
  pub holds : HoldsBatches journal.blocks journal.before batches (inside journal.part gives)
  pub end : journal.end ≡ length holds.bytes
  pub front : journal.front ≡ last_front journal.before batches
  pub runs : journal.broken ≡ false
  pub durable : Only (inside journal.part gives) (LeftInside journal.part may_leave)

-- a call that keeps its part keeps a journal settled: a lemma for the crates above
pub still_settled : {journal : State} {batches : List Batch} {old new : List ℕ} {left_old left_new : List ℕ → Type 0} → KeepsPart journal.part old new left_old left_new → IsSettled journal batches old left_old → IsSettled journal batches new left_new
still_settled keeps settled = record {
  holds = held_as keeps.gives settled.holds;
  end = settled.end;
  front = settled.front;
  runs = settled.runs;
  durable = settled_still keeps settled.durable;
}

-- the bytes are the batch's behind its gate, and it may be the next
pub record IsEncoded (journal : State) (batch : Batch) (bytes : List ℕ) : Type 0 where
  pub next : IsBatch journal.blocks journal.front batch
  pub is : bytes ≡ encoding_behind_gate batch.front batch.images
