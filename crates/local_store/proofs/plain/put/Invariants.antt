use Rattle.std.proofs.Common.{◌≡◌, length, take}
use Rattle.local_store.specs.Overlay.{with_images}
use Rattle.local_store.proofs.Pends.{marked}
use Rattle.local_store.proofs.plain.put.Given as goal

-- the images that the loop has passed are over the volume, and their blocks pending
abbrev pub invariant-loop-image : goal.invariant-loop-image
invariant-loop-image l =
    (l.volume ≡ with_images l.fn.volume (take l.image-index l.fn.images))
    × (l.pending ≡ marked (λ image. tt) l.fn.pending (take l.image-index l.fn.images))
    × (length l.volume ≡ length l.fn.volume) × (length l.pending ≡ length l.fn.pending)
