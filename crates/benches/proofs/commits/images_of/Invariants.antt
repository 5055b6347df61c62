use Rattle.std.proofs.Common.{◌≡◌, ◌+◌, ◌<◌, ℕ, get_or, length}
use Rattle.gate_journal.specs.Image.{Image}
use Rattle.benches.proofs.commits.images_of.Given as goal

-- the images so far are of the blocks from the first on
abbrev pub invariant-loop-index : goal.invariant-loop-index
invariant-loop-index l = record {
  many : length l.images.items ≡ l.index;
  blocks : (k : ℕ) (d : Image) → k < l.index → (get_or l.images.items k d).block ≡ l.fn.first + k;
}
