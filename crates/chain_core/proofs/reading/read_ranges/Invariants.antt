use Rattle.std.proofs.Common.{◌≡◌, ℕ, List, fold, length, map, take}
use Rattle.version_table.specs.Held.{writes_upto}
use Rattle.volume.specs.Writes.{patched}
use Rattle.chain_steps.specs.Steps.{range_of}
use Rattle.chain_core.specs.Node.{size_of}
use Rattle.chain_core.specs.Reads.{HasOnlyRead}
use Rattle.chain_core.proofs.reading.read_ranges.Given as goal

-- the bytes of the ranges so far, from a store that was only read
abbrev pub invariant-loop-range : goal.invariant-loop-range
invariant-loop-range g l = record {
  many : length l.all.items ≡ l.range-index;
  store : HasOnlyRead g.S.StoreLike.keeps_model g.S.StoreLike.about g.S.StoreLike.failures g.S.StoreLike.keeps g.S.StoreLike.moment g.S.StoreLike.may_have_left_since l.fn.store l.store;
  bytes : g.S.StoreLike.keeps_model → (volume : List ℕ) → g.S.StoreLike.keeps l.fn.store volume → length volume ≡ size_of (g.S.StoreLike.about l.fn.store)
      → map (λ bytes. bytes.items) l.all.items ≡ map (λ range. range_of (fold patched volume (writes_upto l.table l.front)) range.0 range.1) (take l.range-index l.ranges);
}
