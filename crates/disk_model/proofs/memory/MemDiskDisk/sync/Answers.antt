use Rattle.std.proofs.Common.{◌≡◌, ◌++◌, length, ap, ◌∙◌, Vec}
use Rattle.std.proofs.lemmas.List.{append-nil}
use Rattle.disk_model.specs.Content.{IsImage, MayHaveLeft}
use Rattle.disk_model.specs.Disk.{Elapses}
use Rattle.disk_model.specs.Memory.{sync_of}
use Rattle.disk_model.specs.Waiting.{waiting_first, waiting_now}
use Rattle.disk_model.specs.declared.content.Change.TheVariants.{Sync}
use Rattle.disk_model.specs.declared.content.Content.{Content}
use Rattle.disk_model.specs.declared.era.Era.{Era}
use Rattle.disk_model.specs.declared.script.Fate.{Fate}
use Rattle.disk_model.specs.declared.script.Fate.TheVariants.{Works, Fails, Stops}
use Rattle.std.specs.declared.alloc.Global.{Global}
use Rattle.disk_model.proofs.EraSteps.{elapses_behind}
use Rattle.disk_model.proofs.Images.{elapses_same, elapses_added}
use Rattle.disk_model.proofs.memory.MemDiskDisk.sync.Goals as goal

elapses_synced : (fate : Fate) (old new : Content) → new.base.items ≡ old.base.items → waiting_first new ≡ waiting_first old → new.log.items ≡ old.log.items ++ sync_of fate
    → Elapses (length old.log.items) (length new.log.items) (MayHaveLeft old.base.items (waiting_first old) old.log.items) (MayHaveLeft new.base.items (waiting_first new) new.log.items) (IsImage new.bytes.items (waiting_now new))
elapses_synced Works old new base first log = elapses_added old new base first Sync log
elapses_synced Fails old new base first log = elapses_same old new base first (log ∙ append-nil old.log.items)
elapses_synced (Stops n) old new base first log = elapses_same old new base first (log ∙ append-nil old.log.items)

pub returns-clause-time : goal.returns-clause-time
returns-clause-time c =
    let self = c.args.self.now in
    let then = c.make_durable.new.self in
    elapses_behind self.eras.items then.eras.items self.content then.content (ap (λ (v : Vec Era Global). v.items) c.make_durable.ensures.eras)
    (elapses_synced c.in_ok-fate.fate self.content then.content c.make_durable.ensures.base c.make_durable.ensures.first c.in_ok-make_durable.ensures.log)
