use Rattle.std.proofs.Common.{arith}
use Rattle.life.proofs.Answering.{at_member, nobody_there, still}
use Rattle.life.proofs.playing.play.Goals as goal

pub returns-in-Connect : goal.returns-in-Connect
returns-in-Connect g c = record { does = rw c.in-Connect.is c.connect.ensures.does; one_volume = λ premise. rw c.in-Connect.is c.connect.ensures.one_volume }

pub returns-in-Bytes : goal.returns-in-Bytes
returns-in-Bytes g c = record { does = rw (c.in-Bytes.is, ← c.deref.ensures.value) c.feed.ensures.does; one_volume = λ premise. rw (c.in-Bytes.is, ← c.deref.ensures.value) c.feed.ensures.one_volume }

pub returns-in-End : goal.returns-in-End
returns-in-End g c = record { does = rw c.in-End.is c.end.ensures.does; one_volume = λ premise. rw c.in-End.is c.end.ensures.one_volume }

pub returns-in-HandOut : goal.returns-in-HandOut
returns-in-HandOut g c = record { does = rw c.in-HandOut.is c.hand_out.ensures.does; one_volume = λ premise. rw c.in-HandOut.is c.hand_out.ensures.one_volume }

pub returns-then-at-len : goal.returns-then-at-len
returns-then-at-len g c = record {
  does = rw c.in-Member.is (at_member _ _ c.args.world.now _ _ (omega (arith, c.if-at-len.true, c.len.ensures)) c.play_at.ensures.does);
  one_volume = λ premise. rw c.in-Member.is (c.play_at.ensures.one_volume premise);
}

pub returns-else-at-len : goal.returns-else-at-len
returns-else-at-len g c = record {
  does = rw c.in-Member.is (nobody_there _ c.args.world.now _ (omega (arith, c.if-at-len.false, c.len.ensures)));
  one_volume = λ premise. rw c.in-Member.is (still g.S.StoreLike.about g.S.StoreLike.keeps g.S.StoreLike.may_leave_now _);
}
