use Rattle.std.proofs.Common.{◌≡◌, ◌<◌, false, take}
use Rattle.std.specs.Prelude.{All}
use Rattle.manager.specs.Manager.{has_slot}
use Rattle.manager.proofs.change.slot_among.Given as goal

-- none so far has this slot
abbrev pub invariant-loop-member : goal.invariant-loop-member
invariant-loop-member l = record {
  none : has_slot l.number (take l.member-index l.members) ≡ false;
  slots : All (λ m. m.slot < 8) (take l.member-index l.members);
}
