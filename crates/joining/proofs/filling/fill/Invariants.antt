use Rattle.std.proofs.Common.{◌≡◌, ◌*◌, List, ℕ, length}
use Rattle.std.specs.Prelude.{false}
use Rattle.home_blocks.specs.Superblock.{Superblock}
use Rattle.world.specs.Joining.{IsTailAt}
use Rattle.joining.specs.Copying.{IsCopyOf, IsFor, LeadsOn}
use Rattle.joining.specs.Rebuilding.{AllKeep, IsSteady, KeepStill}
use Rattle.joining.proofs.Due.{left}
use Rattle.joining.proofs.filling.fill.Given as goal

-- the blocks so far were given
abbrev pub invariant-loop-copying : goal.invariant-loop-copying
invariant-loop-copying g l = record {
  is_for : IsFor l.world.chain l.copying;
  steady : IsSteady l.fn.world.chain l.world.chain;
  others : l.world ≡ record l.fn.world { chain = l.world.chain };
  keep : g.S.StoreLike.keeps_model → KeepStill g.S.StoreLike.keeps l.fn.world.chain l.world.chain;
  place : l.copying.at ≡ l.fn.copying.at;
  noted : l.copying.front ≡ l.fn.copying.front;
  tail : IsTailAt l.world.chain l.copying.at;
  runs : l.copying.broken ≡ false;
  size : LeadsOn (λ was now. g.D.Disk.size now ≡ g.D.Disk.size was) l.fn.copying l.copying;
  done : LeadsOn (λ was now. g.D.Disk.failures now ≡ g.D.Disk.failures was) l.fn.copying l.copying;
  blocks : length l.copying.sender.marks ≡ length l.fn.copying.sender.marks;
  copies : g.S.StoreLike.keeps_model → g.D.Disk.keeps_model → (volume : List ℕ) → AllKeep g.S.StoreLike.keeps volume l.fn.world.chain → length volume ≡ 4096 * length l.fn.copying.sender.marks
      → (sb : Superblock) → IsCopyOf g.D.Disk.gives g.D.Disk.may_leave_now sb volume l.fn.copying → IsCopyOf g.D.Disk.gives g.D.Disk.may_leave_now sb volume l.copying;
}

abbrev pub decreases-loop-copying : goal.decreases-loop-copying
decreases-loop-copying g l = left l.copying.sender
