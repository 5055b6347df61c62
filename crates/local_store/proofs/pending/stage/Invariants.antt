use Rattle.std.proofs.Common.{◌≡◌, take}
use Rattle.local_store.proofs.pending.stage.Given as goal

abbrev pub invariant-loop-image : goal.invariant-loop-image
invariant-loop-image l = l.staged.items ≡ take l.image-index l.images
