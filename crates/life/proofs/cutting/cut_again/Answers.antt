use Rattle.std.proofs.Common.{arith}
use Rattle.life.specs.Recovered.{IsCutAnew}
use Rattle.life.proofs.Anew.{become_more, became}
use Rattle.life.proofs.cutting.cut_again.Goals as goal

pub loop-disk-preserved : goal.loop-disk-preserved
loop-disk-preserved c =
    let long = c.loop-disk.auto.disk-items in
    become_more (IsCutAnew c.args.cut) c.loop-disk.disk-index c.args.disks.items c.loop-disk.disk-items c.disk-item.result c.cut_anew.new.disk c.loop-disk.invariant (omega (arith, long, c.loop-disk-test.true)) c.cut_anew.ensures

pub returns : goal.returns
returns c =
    let long = c.loop-disk.auto.disk-items in
    let held = c.args.disks.ok in
    let given = c.deref_mut-disk-items.ensures.len in
    became (IsCutAnew c.args.cut) c.args.disks.len c.loop-disk.disk-index c.args.disks.items c.loop-disk.disk-items c.loop-disk.invariant (omega (arith, long, c.loop-disk-test.false)) (omega (arith, long, given, held)) (omega (arith, long, given, held))
