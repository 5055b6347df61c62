use Rattle.clients.specs.Clients.{no_one}
use Rattle.world.proofs.ReceptionSteps.{hands_one_volume}
use Rattle.world.proofs.world.World.end.Goals as goal

pub returns-clause-one_volume : goal.returns-clause-one_volume
returns-clause-one_volume g c = rw (← c.self.view_is) (hands_one_volume g.S.StoreLike.about g.S.StoreLike.keeps g.S.StoreLike.may_leave_now _ c.end.new.self no_one c.end.ensures.places c.end.ensures.lawful)
