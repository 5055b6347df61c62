use Rattle.clients.specs.Clients.{no_one}
use Rattle.life.proofs.Copied.{apart_anyhow, apart_same}
use Rattle.life.proofs.Starting.{about_of_store, keeps_volume, leaves_now}
use Rattle.life.proofs.managing.begin_next.Goals as goal

pub returns-then-is_counted-clause-one_volume : goal.returns-then-is_counted-clause-one_volume
returns-then-is_counted-clause-one_volume c = apart_anyhow about_of_store keeps_volume leaves_now no_one no_one _ _ _ c.managed.view_is (c.begin_join.ensures.one_volume tt)

pub returns-then-is_counted-clause-copy : goal.returns-then-is_counted-clause-copy
returns-then-is_counted-clause-copy c = apart_same about_of_store keeps_volume leaves_now _ _ _ c.managed.view_is

pub returns-else-is_counted-clause-one_volume : goal.returns-else-is_counted-clause-one_volume
returns-else-is_counted-clause-one_volume c = apart_anyhow about_of_store keeps_volume leaves_now no_one no_one _ _ _ c.managed.view_is (c.begin_record.ensures.one_volume tt)

pub returns-else-is_counted-clause-copy : goal.returns-else-is_counted-clause-copy
returns-else-is_counted-clause-copy c = apart_same about_of_store keeps_volume leaves_now _ _ _ c.managed.view_is
