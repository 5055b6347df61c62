-- What each call keeps of a store, whatever its disk holds.
use Rattle.std.proofs.Common.{ℕ, ◌≤◌, List, ◌∙◌}
use Rattle.gate_journal.specs.Image.{Image}
use Rattle.gate_journal.specs.declared.batch.TheConstants.{MAX_NUMBER}
use Rattle.local_store.specs.Store.{IsSound, State, committed}
use Rattle.local_store.proofs.Homes.{length-with_pending}

pub sound_committed : (store : State) (front : ℕ) (images : List Image) → IsSound store → front ≤ MAX_NUMBER → IsSound (committed store front images)
sound_committed store front images was limit = record {
  journal = record { part = was.journal.part; slot = was.journal.slot; blocks = was.journal.blocks; before = was.journal.before };
  table = length-with_pending store.pending images ∙ was.table;
  front = limit;
  runs = was.runs;
}
