use Rattle.std.proofs.Common.{ℕ, ◌≤◌, List, length, ap, arith, Vec}
use Rattle.disk_model.specs.Memory.{given}
use Rattle.disk_model.specs.declared.content.Change.TheVariants.{Write}
use Rattle.disk_model.specs.declared.script.Fate.{Fate}
use Rattle.disk_model.specs.declared.script.Fate.TheVariants.{Works, Fails, Stops}
use Rattle.disk_model.specs.Waiting.{waiting_now}
use Rattle.disk_model.specs.declared.era.Era.{Era}
use Rattle.std.specs.declared.alloc.Global.{Global}
use Rattle.disk_model.proofs.EraSteps.{elapses_behind}
use Rattle.disk_model.proofs.Images.{torn_image, elapses_added}
use Rattle.disk_model.proofs.memory.MemDiskDisk.write_at.Goals as goal

length-given : (fate : Fate) (bytes : List ℕ) → length (given fate bytes) ≤ length bytes
length-given Works bytes = omega arith
length-given Fails bytes = omega arith
length-given (Stops n) bytes = omega arith

pub returns-clause-leaves : goal.returns-clause-leaves
returns-clause-leaves c =
    let self = c.args.self.now in
    torn_image self.content.bytes.items (given c.in_ok-fate.fate c.args.bytes.now) (waiting_now self.content) c.args.at (length c.args.bytes.now) c.requires (length-given c.in_ok-fate.fate c.args.bytes.now) _ _ c.in_ok-put.ensures.bytes c.in_ok-put.ensures.unsynced

pub returns-clause-time : goal.returns-clause-time
returns-clause-time c =
    let (v, is, added) = c.in_ok-put.ensures.log in
    let self = c.args.self.now in
    elapses_behind self.eras.items c.put.new.self.eras.items self.content c.put.new.self.content (ap (λ (v : Vec Era Global). v.items) c.put.ensures.eras)
    (elapses_added self.content c.put.new.self.content c.put.ensures.base c.put.ensures.first (Write c.args.at v (length c.args.bytes.now)) added)
