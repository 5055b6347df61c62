use Rattle.std.proofs.Common.{◌+◌, ◌*◌, ◌≤◌, ℕ, List, length, take}
use Rattle.block_cache.specs.Cache.{Agrees}
use Rattle.disk_model.specs.Disk.{put}
use Rattle.local_store.proofs.homing.renew_run.Given as goal

-- the cache knows of the blocks that the loop has passed
abbrev pub invariant-loop-i : goal.invariant-loop-i
invariant-loop-i l = (home : List ℕ) → 4096 * (l.fn.first + l.fn.count) ≤ length home → Agrees l.fn.cache home → Agrees l.cache (put home (4096 * l.fn.first) (take (4096 * l.i) l.fn.bytes))
