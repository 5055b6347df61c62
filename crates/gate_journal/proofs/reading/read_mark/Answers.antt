use Rattle.std.proofs.Common.{◌+◌, ◌-◌, ◌^◌, arith, drop, subst, sym}
use Rattle.disk_model.specs.Part.{inside}
use Rattle.gate_journal.specs.Batch.{EncodesImage}
use Rattle.gate_journal.specs.Reading.{HoldsTo}
use Rattle.gate_journal.specs.Image.{Image}
use Rattle.gate_journal.proofs.Images.{mark_stands, no_whole}
use Rattle.gate_journal.proofs.Standing.{length-inside}
use Rattle.gate_journal.proofs.reading.read_mark.Goals as goal

pub returns-then-number-lt-MARK_BIT-clause-damaged : goal.returns-then-number-lt-MARK_BIT-clause-damaged
returns-then-number-lt-MARK_BIT-clause-damaged g c = λ keeps is.
    let bytes = g.D.Disk.gives c.args.disk.now in
    let is_len = length-inside c.args.part bytes (g.D.Disk.size c.args.disk.now) (g.met.D.Disk.gives_size keeps c.args.disk.now) c.requires.on_disk in
    no_whole (inside c.args.part bytes) c.args.part.len c.args.at is_len (omega (arith, c.requires.range)) c.in_ok-number.number (omega (arith, c.if-number-lt-MARK_BIT.true)) (omega (arith, c.requires.small)) (c.in_ok-number.ensures.number keeps)

pub returns-clause-image : goal.returns-clause-image
returns-clause-image g c = λ keeps.
    let area = inside c.args.part (g.D.Disk.gives c.args.disk.now) in
    let number = c.in_ok-number.number in
    subst (λ (i : Image). HoldsTo EncodesImage (drop c.args.at area) area c.args.at (c.args.at + 4) i) (sym c.zeros.ensures)
    (mark_stands area c.args.at number (number - 2 ^ 31) (c.in_ok-number.ensures.number keeps) (omega (arith, c.if-number-lt-MARK_BIT.false)))
