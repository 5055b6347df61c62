use Rattle.clients.specs.Clients.{no_one}
use Rattle.life.proofs.Answering.{done_none, done_so, told_so, tried_so, went_so}
use Rattle.life.proofs.playing.play_at.Goals as goal

pub returns-in-Take : goal.returns-in-Take
returns-in-Take g c = record {
  does = rw c.in-Take.is (c.take.result, c.told.ensures, record { taken = c.take.ensures.taken; none = c.take.ensures.none; any_moment = c.take.ensures.any_moment });
  one_volume = λ premise. told_so g.S.StoreLike.about g.S.StoreLike.keeps g.S.StoreLike.may_leave_now _ _ no_one _ c.take.result c.told.ensures (c.take.ensures.one_volume premise);
}

pub returns-in-Number : goal.returns-in-Number
returns-in-Number g c = record {
  does = rw c.in-Number.is (c.number.result, c.tried.ensures, record { none = c.number.ensures.none; taken = c.number.ensures.taken; refused = c.number.ensures.refused });
  one_volume = λ premise. tried_so g.S.StoreLike.about g.S.StoreLike.keeps g.S.StoreLike.may_leave_now _ _ no_one _ c.number.result c.tried.ensures (c.number.ensures.one_volume premise);
}

pub returns-in-Pass : goal.returns-in-Pass
returns-in-Pass g c = record {
  does = rw c.in-Pass.is (c.pass.result, c.tried-in-Pass.ensures, record { none = c.pass.ensures.none; taken = c.pass.ensures.taken; refused = c.pass.ensures.refused });
  one_volume = λ premise. tried_so g.S.StoreLike.about g.S.StoreLike.keeps g.S.StoreLike.may_leave_now _ _ no_one _ c.pass.result c.tried-in-Pass.ensures (c.pass.ensures.one_volume premise);
}

pub returns-in-Look : goal.returns-in-Look
returns-in-Look g c = record {
  does = rw c.in-Look.is (c.look.result, c.done.ensures, record { did = c.look.ensures.looked; idle = c.look.ensures.stopped });
  one_volume = λ premise. done_so g.S.StoreLike.about g.S.StoreLike.keeps g.S.StoreLike.may_leave_now _ _ no_one _ (done_none c.look.result _ c.done.ensures) (c.look.ensures.one_volume premise);
}

pub returns-in-AnswerFront : goal.returns-in-AnswerFront
returns-in-AnswerFront g c = record {
  does = rw c.in-AnswerFront.is (c.answer_front.result, c.told-in-AnswerFront.ensures, record { answered = record { did = c.answer_front.ensures.answered; idle = c.answer_front.ensures.idle }; any_moment = c.answer_front.ensures.any_moment });
  one_volume = λ premise. told_so g.S.StoreLike.about g.S.StoreLike.keeps g.S.StoreLike.may_leave_now _ _ no_one _ c.answer_front.result c.told-in-AnswerFront.ensures (c.answer_front.ensures.one_volume premise);
}

pub returns-in-Raise : goal.returns-in-Raise
returns-in-Raise g c = record {
  does = rw c.in-Raise.is (c.raise.result, c.done-in-Raise.ensures, record { did = c.raise.ensures.raised; idle = c.raise.ensures.idle });
  one_volume = λ premise. done_so g.S.StoreLike.about g.S.StoreLike.keeps g.S.StoreLike.may_leave_now _ _ no_one _ (done_none c.raise.result _ c.done-in-Raise.ensures) (c.raise.ensures.one_volume premise);
}

pub returns-in-Raised : goal.returns-in-Raised
returns-in-Raised g c = record {
  does = rw c.in-Raised.is (c.raised.result, c.told-in-Raised.ensures, record { did = c.raised.ensures.known; idle = c.raised.ensures.idle });
  one_volume = λ premise. told_so g.S.StoreLike.about g.S.StoreLike.keeps g.S.StoreLike.may_leave_now _ _ no_one _ c.raised.result c.told-in-Raised.ensures (c.raised.ensures.one_volume premise);
}

pub returns-in-FindFront : goal.returns-in-FindFront
returns-in-FindFront g c = record {
  does = rw c.in-FindFront.is (c.find_front.result, c.done-in-FindFront.ensures, record { did = c.find_front.ensures.found; idle = c.find_front.ensures.stopped });
  one_volume = λ premise. done_so g.S.StoreLike.about g.S.StoreLike.keeps g.S.StoreLike.may_leave_now _ _ no_one _ (done_none c.find_front.result _ c.done-in-FindFront.ensures) (c.find_front.ensures.one_volume premise);
}

pub returns-in-Crew : goal.returns-in-Crew
returns-in-Crew g c = record {
  does = rw c.in-Crew.is (c.crew.result, c.done-in-Crew.ensures, record { did = c.crew.ensures.mustered; idle = c.crew.ensures.idle });
  one_volume = λ premise. done_so g.S.StoreLike.about g.S.StoreLike.keeps g.S.StoreLike.may_leave_now _ _ no_one _ (done_none c.crew.result _ c.done-in-Crew.ensures) (c.crew.ensures.one_volume premise);
}

pub returns-in-Gauge : goal.returns-in-Gauge
returns-in-Gauge g c = record {
  does = rw c.in-Gauge.is (c.gauge.result, c.done-in-Gauge.ensures, record { did = c.gauge.ensures.gauged; idle = c.gauge.ensures.idle });
  one_volume = λ premise. done_so g.S.StoreLike.about g.S.StoreLike.keeps g.S.StoreLike.may_leave_now _ _ no_one _ (done_none c.gauge.result _ c.done-in-Gauge.ensures) (c.gauge.ensures.one_volume premise);
}

pub returns-in-Settle : goal.returns-in-Settle
returns-in-Settle g c = record {
  does = rw c.in-Settle.is (c.settle.result, c.told-in-Settle.ensures, record { did = c.settle.ensures.settled; idle = c.settle.ensures.idle });
  one_volume = λ premise. told_so g.S.StoreLike.about g.S.StoreLike.keeps g.S.StoreLike.may_leave_now _ _ no_one _ c.settle.result c.told-in-Settle.ensures (c.settle.ensures.one_volume premise);
}

pub returns-in-EndCommit : goal.returns-in-EndCommit
returns-in-EndCommit g c = record {
  does = rw c.in-EndCommit.is (c.end_commit.result, c.told-in-EndCommit.ensures, record { ended = record { did = c.end_commit.ensures.ended; idle = c.end_commit.ensures.idle }; any_moment = c.end_commit.ensures.any_moment });
  one_volume = λ premise. told_so g.S.StoreLike.about g.S.StoreLike.keeps g.S.StoreLike.may_leave_now _ _ no_one _ c.end_commit.result c.told-in-EndCommit.ensures (c.end_commit.ensures.one_volume premise);
}

pub returns-in-Post : goal.returns-in-Post
returns-in-Post g c = record {
  does = rw c.in-Post.is (c.post.result, c.done-in-Post.ensures, record { did = c.post.ensures.posted; idle = c.post.ensures.none });
  one_volume = λ premise. done_so g.S.StoreLike.about g.S.StoreLike.keeps g.S.StoreLike.may_leave_now _ _ no_one _ (done_none c.post.result _ c.done-in-Post.ensures) (c.post.ensures.one_volume premise);
}

pub returns-in-Checkpoint : goal.returns-in-Checkpoint
returns-in-Checkpoint g c = record {
  does = rw c.in-Checkpoint.is (c.checkpoint.result, c.went.ensures, record { done = c.checkpoint.ensures.done; full = c.checkpoint.ensures.full; refused = c.checkpoint.ensures.refused; any_moment = c.checkpoint.ensures.any_moment });
  one_volume = λ premise. went_so g.S.StoreLike.about g.S.StoreLike.keeps g.S.StoreLike.may_leave_now _ _ no_one _ c.checkpoint.result c.went.ensures (c.checkpoint.ensures.one_volume premise);
}

pub returns-in-BeginCommits-clause-does : goal.returns-in-BeginCommits-clause-does
returns-in-BeginCommits-clause-does g c = rw c.in-BeginCommits.is c.begin_commits.ensures.does

pub returns-in-Tick-clause-does : goal.returns-in-Tick-clause-does
returns-in-Tick-clause-does g c = rw c.in-Tick.is c.tick.ensures.does

pub returns-in-Stop : goal.returns-in-Stop
returns-in-Stop g c = record {
  does = rw c.in-Stop.is (c.stop.result, c.told-in-Stop.ensures, record { did = c.stop.ensures.stopped; idle = c.stop.ensures.idle });
  one_volume = λ premise. told_so g.S.StoreLike.about g.S.StoreLike.keeps g.S.StoreLike.may_leave_now _ _ no_one _ c.stop.result c.told-in-Stop.ensures (c.stop.ensures.one_volume premise);
}
