use Rattle.std.proofs.Common.{◌≡◌, ℕ, List, fold, length, map, take}
use Rattle.std.specs.Prelude.{All}
use Rattle.version_table.specs.Held.{writes_upto}
use Rattle.volume.specs.Writes.{block_of, patched}
use Rattle.chain_core.specs.Groups.{IsBlank}
use Rattle.chain_core.specs.Node.{size_of}
use Rattle.chain_core.specs.Reads.{HasOnlyRead}
use Rattle.chain_core.proofs.groups.images_of.Given as goal

-- the images of the blocks so far, from a store that was only read
abbrev pub invariant-loop-block : goal.invariant-loop-block
invariant-loop-block g l = record {
  many : length l.images.items ≡ l.block-index;
  store : HasOnlyRead g.S.StoreLike.keeps_model g.S.StoreLike.about g.S.StoreLike.failures g.S.StoreLike.keeps g.S.StoreLike.moment g.S.StoreLike.may_have_left_since l.fn.store l.store;
  blocks : map (λ image. image.block) l.images.items ≡ take l.block-index l.blocks;
  blank : All (IsBlank (writes_upto l.table l.front)) l.images.items;
  bytes : g.S.StoreLike.keeps_model → (volume : List ℕ) → g.S.StoreLike.keeps l.fn.store volume → length volume ≡ size_of (g.S.StoreLike.about l.fn.store)
      → All (λ image. image.bytes ≡ block_of (fold patched volume (writes_upto l.table l.front)) image.block) l.images.items;
}
