use Rattle.life.proofs.Copied.{apart_noted}
use Rattle.life.proofs.Starting.{about_of_store, keeps_volume, leaves_now}
use Rattle.life.proofs.managed.ManagedWorld+Store+MemDisk+MemDisk.note.Goals as goal

pub returns-clause-copy : goal.returns-clause-copy
returns-clause-copy c = apart_noted about_of_store keeps_volume leaves_now _ _ _ c.self.view_is (c.note.ensures.copy tt)
