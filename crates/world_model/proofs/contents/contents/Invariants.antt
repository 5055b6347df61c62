use Rattle.std.proofs.Common.{◌≡◌, map, take}
use Rattle.volume.specs.Writes.{volume_of}
use Rattle.world_model.proofs.contents.contents.Given as goal

abbrev pub invariant-loop-write : goal.invariant-loop-write
invariant-loop-write l = l.volume.items ≡ volume_of l.size (map (λ t. t.write) (take l.write-index l.taken))
