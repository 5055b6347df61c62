use Rattle.life.specs.Played.{handed_of}
use Rattle.life.proofs.Answering.{done_none}
use Rattle.life.proofs.Copied.{nothing_happens}
use Rattle.life.proofs.Starting.{about_of_store, keeps_volume, leaves_now}
use Rattle.life.proofs.admitting.attach.Goals as goal

pub returns-in-Ok-clause-one_volume : goal.returns-in-Ok-clause-one_volume
returns-in-Ok-clause-one_volume c = nothing_happens about_of_store keeps_volume leaves_now (handed_of c.done.result) c.args.managed.now c.attach_new.new.managed c.attach_new.ensures.world (done_none _ _ c.done.ensures)

pub returns-in-Err-clause-one_volume : goal.returns-in-Err-clause-one_volume
returns-in-Err-clause-one_volume c = nothing_happens about_of_store keeps_volume leaves_now (handed_of c.refused.result) c.args.managed.now c.attach_new.new.managed c.attach_new.ensures.world c.refused.ensures.none
