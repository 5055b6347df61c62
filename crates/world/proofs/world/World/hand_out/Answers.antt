use Rattle.world.specs.Reception.{given_to}
use Rattle.world.proofs.ReceptionSteps.{hands_one_volume}
use Rattle.world.proofs.world.World.hand_out.Goals as goal

pub returns-clause-one_volume : goal.returns-clause-one_volume
returns-clause-one_volume g c = rw (← c.self.view_is) (hands_one_volume g.S.StoreLike.about g.S.StoreLike.keeps g.S.StoreLike.may_leave_now _ c.put_out.new.self (given_to c.args.id c.put_out.result)
    c.put_out.ensures.places c.put_out.ensures.lawful)
