use Rattle.std.proofs.Common.{◌∙◌}
use Rattle.disk_model.specs.Calm.{calm, calm_runs}
use Rattle.disk_model.specs.Memory.{failures_of}
use Rattle.life.proofs.beginning.first_store.Goals as goal

pub returns-in-Ok-clause-go : goal.returns-in-Ok-clause-go
returns-in-Ok-clause-go c = calm_runs c.in-Ok.store.disk (failures_of c.in_ok-disk.disk) c.in-Ok.ensures.done
    (rw (calm c.in_ok-disk.disk (c.in_ok-disk.ensures.script ∙ c.new-2.ensures) c.in_ok-disk.ensures.runs) c.in-Ok.ensures.most)
