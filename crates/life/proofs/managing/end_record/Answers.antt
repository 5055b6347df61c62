use Rattle.clients.specs.Clients.{no_one}
use Rattle.life.specs.Played.{handed_of}
use Rattle.life.proofs.Answering.{done_none}
use Rattle.life.proofs.Copied.{told_nothing}
use Rattle.life.proofs.Starting.{about_of_store, keeps_volume, leaves_now}
use Rattle.life.proofs.managing.end_record.Goals as goal

pub returns-in-Ok-clause-one_volume : goal.returns-in-Ok-clause-one_volume
returns-in-Ok-clause-one_volume c =
    told_nothing about_of_store keeps_volume leaves_now no_one (handed_of c.done.result) c.args.managed.now c.end_next.new.managed (done_none _ _ c.done.ensures) c.end_next.ensures.one_volume
