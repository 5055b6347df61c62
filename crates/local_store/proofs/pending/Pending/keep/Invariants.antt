use Rattle.std.proofs.Common.{◌≡◌, ◌++◌, length}
use Rattle.local_store.specs.Pending.{with_pending}
use Rattle.local_store.proofs.pending.Pending.keep.Given as goal

abbrev pub invariant-loop-image : goal.invariant-loop-image
invariant-loop-image l =
    (goal.iterator-loop-image).can_next l.image-iterator × (goal.iterator-loop-image).is_finite l.image-iterator
    × (l.yielded ++ l.image-iterator.rest.items ≡ l.fn.staged.items)
    × (l.self ≡ with_pending l.initial.self l.yielded)
    × (length l.self ≡ length l.initial.self)
