use Rattle.rejoin_catchup.proofs.Marks.{sending_nothing}
use Rattle.rejoin_catchup.proofs.sender.Sender.new.Goals as goal

pub invariant_of-result : goal.invariant_of-result
invariant_of-result c = sending_nothing c.in_ok-marks.marks.items c.args.blocks c.requires (c.in_ok-marks.ensures.items_if_clones_equal (λ y is. is))
