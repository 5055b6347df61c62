use Rattle.std.proofs.Common.{◌≡◌, take}
use Rattle.world_model.specs.Machine.{last_answered}
use Rattle.world_model.proofs.lists.last_answered_in.Given as goal

abbrev pub invariant-loop-i : goal.invariant-loop-i
invariant-loop-i l = l.last ≡ last_answered 1 (take l.i l.taken)
