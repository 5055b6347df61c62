use Rattle.std.proofs.Common.{◌≡◌, ◌+◌, ◌<◌, ◌≤◌, ℕ, List, None, length}
use Rattle.disk_model.specs.Disk.{LeavesOnly}
use Rattle.local_store.specs.Meaning.{Means}
use Rattle.local_store.specs.Pending.{count_pending, held}
use Rattle.local_store.specs.Store.{IsStored, meaning_in}
use Rattle.local_store.proofs.contents.Contents.bring_all_home.Given as goal

abbrev pub invariant-loop-block : goal.invariant-loop-block
invariant-loop-block g l =
    (l.self ≡ record l.fn.self { pending = l.self.pending; cache = l.self.cache })
    × ((b : ℕ) → b < l.block → held l.self.pending b ≡ None)
    × (length l.self.pending ≡ length l.fn.self.pending)
    × (g.D.Disk.size l.disk ≡ g.D.Disk.size l.fn.disk)
    × (g.D.Disk.failures l.disk ≡ g.D.Disk.failures l.fn.disk)
    × (g.D.Disk.most_failures l.disk ≤ g.D.Disk.most_failures l.fn.disk)
    × (g.D.Disk.calls_made l.disk + count_pending l.self.pending ≤ g.D.Disk.calls_made l.fn.disk + count_pending l.fn.self.pending)
    × (g.D.Disk.keeps_model → (v : List ℕ) → IsStored l.fn.self v (g.D.Disk.gives l.fn.disk) (g.D.Disk.may_leave_now l.fn.disk) → IsStored l.self v (g.D.Disk.gives l.disk) (g.D.Disk.may_leave_now l.disk))
    × (g.D.Disk.keeps_model → (v : List ℕ) → IsStored l.fn.self v (g.D.Disk.gives l.fn.disk) (g.D.Disk.may_leave_now l.fn.disk) → LeavesOnly g.D.Disk.moment g.D.Disk.may_have_left_since l.fn.disk l.disk (Means (meaning_in l.fn.self v)))
