use Rattle.clients.specs.Clients.{no_one}
use Rattle.life.specs.Played.{handed_of}
use Rattle.life.proofs.Answering.{done_none, done_so, told_so}
use Rattle.life.proofs.Copied.{apart_anyhow, apart_same}
use Rattle.life.proofs.Starting.{about_of_store, keeps_volume, leaves_now}
use Rattle.life.proofs.managing.manage.Goals as goal

pub returns-in-CountOut-clause-one_volume : goal.returns-in-CountOut-clause-one_volume
returns-in-CountOut-clause-one_volume c =
    apart_anyhow about_of_store keeps_volume leaves_now no_one (handed_of c.done.result) _ _ _ c.managed.view_is
    (done_so about_of_store keeps_volume leaves_now _ _ no_one c.done.result (done_none c.count_out-is_out.result _ c.done.ensures) (c.count_out-is_out.ensures.one_volume tt))

pub returns-in-CountOut-clause-copy : goal.returns-in-CountOut-clause-copy
returns-in-CountOut-clause-copy c = apart_same about_of_store keeps_volume leaves_now _ _ _ c.managed.view_is

pub returns-in-Tell-clause-one_volume : goal.returns-in-Tell-clause-one_volume
returns-in-Tell-clause-one_volume c =
    apart_anyhow about_of_store keeps_volume leaves_now no_one (handed_of c.told.result) _ _ _ c.managed-in-Tell.view_is
    (told_so about_of_store keeps_volume leaves_now _ _ no_one c.told.result c.tell.result c.told.ensures (c.tell.ensures.one_volume tt))

pub returns-in-Tell-clause-copy : goal.returns-in-Tell-clause-copy
returns-in-Tell-clause-copy c = apart_same about_of_store keeps_volume leaves_now _ _ _ c.managed-in-Tell.view_is
