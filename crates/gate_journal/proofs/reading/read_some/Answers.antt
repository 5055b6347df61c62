use Rattle.std.proofs.Common.{◌+◌, arith}
use Rattle.disk_model.specs.Part.{inside}
use Rattle.gate_journal.proofs.Images.{no_mark, stands_within}
use Rattle.gate_journal.proofs.Standing.{length-inside}
use Rattle.gate_journal.proofs.reading.read_some.Goals as goal

pub returns-then-room-le-MARK_SIZE-clause-damaged : goal.returns-then-room-le-MARK_SIZE-clause-damaged
returns-then-room-le-MARK_SIZE-clause-damaged g c = λ keeps is.
    let bytes = g.D.Disk.gives c.args.disk.now in
    let is_len = length-inside c.args.part bytes (g.D.Disk.size c.args.disk.now) (g.met.D.Disk.gives_size keeps c.args.disk.now) c.requires.on_disk in
    no_mark (inside c.args.part bytes) c.args.part.len c.args.at is_len (omega (arith, c.requires.range)) (omega (arith, c.if-room-le-MARK_SIZE.true, c.len.ensures))

pub returns-clause-images : goal.returns-clause-images
returns-clause-images g c = λ keeps.
    stands_within (inside c.args.part (g.D.Disk.gives c.args.disk.now)) c.in_ok-record.record c.args.at (c.args.at + 4100) c.in_ok-images.size c.in_ok-images.images.items (c.in_ok-record.ensures.bytes keeps) c.in_ok-images.ensures.images
