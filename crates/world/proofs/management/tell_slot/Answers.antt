use Rattle.std.proofs.Common.{refl}
use Rattle.world.proofs.ManagingSteps.{hands_none_refused, hands_none_still}
use Rattle.world.proofs.management.tell_slot.Goals as goal

pub returns-in_default-clause-one_volume : goal.returns-in_default-clause-one_volume
returns-in_default-clause-one_volume g c = λ premise. hands_none_still c.args.world.now c.args.world.now c.new.result.items c.new.ensures.items refl

pub returns-in-Err-clause-one_volume : goal.returns-in-Err-clause-one_volume
returns-in-Err-clause-one_volume g c = λ premise.
    hands_none_refused c.args.world.now c.tell.new.self c.new-in-Err.result.items c.new-in-Err.ensures.items (λ told. told) c.tell.result c.in-Err.field-0 c.in-Err.is (c.tell.ensures.one_volume premise)
