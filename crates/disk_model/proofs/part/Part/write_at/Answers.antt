use Rattle.std.proofs.Common.{◌≤◌, ◌+◌, length, sym, subst, arith, refl}
use Rattle.std.proofs.lemmas.Result.{on_err_weaker, on_ok_weaker}
use Rattle.disk_model.specs.Disk.{Torn}
use Rattle.disk_model.specs.Part.{inside}
use Rattle.disk_model.specs.Frames.{touches}
use Rattle.disk_model.specs.Writes.{torn-put}
use Rattle.disk_model.proofs.Parts.{holds_inside, torn_inside, torn_other, keeps_apart, either}
use Rattle.disk_model.proofs.part.Part.write_at.Goals as goal

pub returns-clause-gives : goal.returns-clause-gives
returns-clause-gives g c = λ keeps.
    let within : c.args.self.start + c.args.self.len ≤ length (g.D.Disk.gives c.args.disk.now) = omega (arith, c.requires.within, g.met.D.Disk.gives_size keeps c.args.disk.now) in
    on_ok_weaker _ (holds_inside c.args.self c.args.at _ _ c.args.bytes.now within c.requires.range) (c.write_at.ensures.gives keeps)

pub returns-clause-failed : goal.returns-clause-failed
returns-clause-failed g c = λ keeps.
    on_err_weaker _ (torn_inside c.args.self c.args.at (length c.args.bytes.now) _ _ c.requires.range) (c.write_at.ensures.failed keeps)

pub returns-clause-leaves : goal.returns-clause-leaves
returns-clause-leaves g c = λ keeps x (d, left, is).
    let (e, was, torn) = c.write_at.ensures.leaves keeps d left in
    let inner = torn_inside c.args.self c.args.at (length c.args.bytes.now) e d c.requires.range torn in
    (inside c.args.self e, (e, was, refl), subst (Torn c.args.at (length c.args.bytes.now) (inside c.args.self e)) (sym is) inner)

pub returns-clause-frame : goal.returns-clause-frame
returns-clause-frame g c = λ keeps.
    let within : c.args.self.start + c.args.at + length c.args.bytes.now ≤ length (g.D.Disk.gives c.args.disk.now) = omega (arith, c.requires.within, c.requires.range, g.met.D.Disk.gives_size keeps c.args.disk.now) in
    touches c.args.self c.args.disk.now c.write_at.new.self (g.met.D.Disk.only_now keeps c.args.disk.now) (c.write_at.ensures.time keeps) (λ other apart.
    let same = either c.write_at.result (c.write_at.ensures.gives keeps) (c.write_at.ensures.failed keeps)
    (λ holds. torn_other c.args.self other apart c.args.at (length c.args.bytes.now) c.requires.range _ _ (subst (Torn (c.args.self.start + c.args.at) (length c.args.bytes.now) (g.D.Disk.gives c.args.disk.now)) (sym holds) (torn-put _ _ c.args.bytes.now within)))
    (torn_other c.args.self other apart c.args.at (length c.args.bytes.now) c.requires.range _ _) in
    keeps_apart c.args.self other apart c.args.at (length c.args.bytes.now) c.requires.range _ _ _ _ same (c.write_at.ensures.leaves keeps))
