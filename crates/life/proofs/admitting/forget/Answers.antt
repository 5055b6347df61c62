use Rattle.life.specs.Played.{handed_of}
use Rattle.clients.specs.Clients.{no_one}
use Rattle.life.proofs.Answering.{done_none}
use Rattle.life.proofs.Copied.{told_nothing}
use Rattle.life.proofs.Starting.{about_of_store, keeps_volume, leaves_now}
use Rattle.life.proofs.admitting.forget.Goals as goal

pub returns-clause-one_volume : goal.returns-clause-one_volume
returns-clause-one_volume c =
    told_nothing about_of_store keeps_volume leaves_now no_one (handed_of c.done.result) c.args.managed.now c.forget_at-forgotten.new.managed (done_none c.forget_at-forgotten.result _ c.done.ensures) c.forget_at-forgotten.ensures.one_volume
