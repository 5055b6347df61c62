use Rattle.std.proofs.Common.{◌≡◌, ◌+◌, ◌<◌, ◌≤◌, ℕ, replicate}
use Rattle.disk_model.specs.Part.{inside}
use Rattle.home_blocks.specs.Places.{home_part}
use Rattle.volume.specs.Writes.{block_of}
use Rattle.local_store.proofs.contents.write_zeros.Given as goal

abbrev pub invariant-loop-block : goal.invariant-loop-block
invariant-loop-block g l =
    (g.D.Disk.size l.disk ≡ g.D.Disk.size l.fn.disk)
    × (g.D.Disk.failures l.disk ≡ g.D.Disk.failures l.fn.disk)
    × (g.D.Disk.most_failures l.disk ≤ g.D.Disk.most_failures l.fn.disk)
    × (g.D.Disk.calls_made l.disk ≤ g.D.Disk.calls_made l.fn.disk + l.block)
    × (g.D.Disk.keeps_model → (b : ℕ) → b < l.block → block_of (inside (home_part l.fn.geometry) (g.D.Disk.gives l.disk)) b ≡ replicate 4096 0)
