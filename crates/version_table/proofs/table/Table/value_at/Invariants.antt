use Rattle.std.proofs.Common.{◌≡◌, ℕ, ◌≤◌, ◌-◌, List, length}
use Rattle.std.specs.Prelude.{All, fold}
use Rattle.volume.specs.Writes.{Fits, patched, block_of}
use Rattle.version_table.specs.Held.{writes_upto}
use Rattle.version_table.proofs.table.Table.value_at.Given as goal

abbrev pub invariant-loop-number : goal.invariant-loop-number
invariant-loop-number l = record {
  from : l.self.forgotten ≤ l.done;
  upto : l.done ≤ l.j;
  patched_to : (volume : List ℕ) → All (Fits (length volume)) (writes_upto l.self l.j) → block_of volume l.block ≡ l.initial.base → block_of (fold patched volume (writes_upto l.self l.done)) l.block ≡ l.base;
}

abbrev pub decreases-loop-number : goal.decreases-loop-number
decreases-loop-number l = l.j - l.done
