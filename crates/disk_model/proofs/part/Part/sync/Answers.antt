use Rattle.disk_model.specs.Frames.{touches_nothing}
use Rattle.disk_model.proofs.part.Part.sync.Goals as goal

pub returns-clause-frame : goal.returns-clause-frame
returns-clause-frame g c = λ keeps.
    touches_nothing c.args.self c.args.disk.now c.sync.new.self
    (g.met.D.Disk.only_now keeps c.args.disk.now) (c.sync.ensures.time keeps) (c.sync.ensures.gives keeps) (c.sync.ensures.leaves keeps)
