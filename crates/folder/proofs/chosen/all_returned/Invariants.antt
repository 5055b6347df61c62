use Rattle.std.proofs.Common.{◌≡◌, map, take}
use Rattle.folder.specs.Found.{returned_as}
use Rattle.folder.proofs.chosen.all_returned.Given as goal

abbrev pub invariant-loop-one : goal.invariant-loop-one
invariant-loop-one g l = l.returned.items ≡ map (returned_as g.S.StoreLike.about) (take l.one-index l.found)
