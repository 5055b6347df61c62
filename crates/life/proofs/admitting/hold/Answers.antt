use Rattle.clients.specs.Clients.{no_one}
use Rattle.life.specs.Played.{handed_of}
use Rattle.life.proofs.Answering.{told_so}
use Rattle.life.proofs.Copied.{apart_anyhow, apart_kept}
use Rattle.life.proofs.Starting.{about_of_store, keeps_volume, leaves_now}
use Rattle.life.proofs.admitting.hold.Goals as goal

pub returns-clause-one_volume : goal.returns-clause-one_volume
returns-clause-one_volume c =
    apart_anyhow about_of_store keeps_volume leaves_now no_one (handed_of c.told.result) _ _ _ c.managed.view_is
    (told_so about_of_store keeps_volume leaves_now _ _ no_one c.told.result c.hold.result c.told.ensures (c.hold.ensures.one_volume tt))

pub returns-clause-copy : goal.returns-clause-copy
returns-clause-copy c = apart_kept about_of_store keeps_volume leaves_now _ _ _ _ c.managed.view_is (c.hold.ensures.copy tt)
