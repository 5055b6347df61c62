use Rattle.world.proofs.ReceptionSteps.{connected_one_volume}
use Rattle.world.proofs.world.World.connect.Goals as goal

pub returns-clause-one_volume : goal.returns-clause-one_volume
returns-clause-one_volume g c = rw (← c.self.view_is) (connected_one_volume g.S.StoreLike.about g.S.StoreLike.keeps g.S.StoreLike.may_leave_now _ c.args.id c.args.at c.connect.new.self c.connect.result
    c.connect.ensures.begins c.connect.ensures.lawful c.connect.ensures.known c.connect.ensures.err)
