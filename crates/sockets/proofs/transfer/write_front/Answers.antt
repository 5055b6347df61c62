-- Behind what the stream took before stands what it took now.
use Rattle.std.proofs.Common.{arith}
use Rattle.std.proofs.lemmas.Grind.{common_steps}
use Rattle.sockets.proofs.Bytes.{appends_more}
use Rattle.sockets.proofs.transfer.write_front.Goals as goal

pub loop-count-preserved : goal.loop-count-preserved
loop-count-preserved g c = (
  grind (arith, common_steps),
  appends_more (g.W.Write.contents c.args.stream.now) (g.W.Write.contents c.loop-count.stream) (g.W.Write.contents c.write_some.new.stream) c.loop-count.count c.in-Ok.more c.args.bytes.now c.loop-count.invariant.1 c.in-Ok.ensures.written,
)
