use Rattle.std.proofs.Common.{◌≡◌, List, ℕ, OnOk, subst}
use Rattle.disk_model.specs.Frames.{touches_nothing}
use Rattle.disk_model.proofs.Parts.{read_inside}
use Rattle.disk_model.proofs.part.Part.read.Goals as goal

pub returns-clause-read : goal.returns-clause-read
returns-clause-read g c = λ keeps.
    let inner = read_inside c.args.self c.args.at (g.D.Disk.gives c.args.disk.now) _ c.requires.range in
    subst (λ (l : List ℕ). OnOk c.read.result (c.read.new.bytes ≡ l)) inner (c.read.ensures.read keeps)

pub returns-clause-frame : goal.returns-clause-frame
returns-clause-frame g c = λ keeps.
    touches_nothing c.args.self c.args.disk.now c.read.new.self
    (g.met.D.Disk.only_now keeps c.args.disk.now) (c.read.ensures.time keeps) (c.read.ensures.gives keeps) (c.read.ensures.leaves keeps)
