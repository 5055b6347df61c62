use Rattle.clients.specs.Clients.{no_one}
use Rattle.life.proofs.Answering.{done_none, done_so}
use Rattle.life.proofs.playing.end.Goals as goal

pub returns : goal.returns
returns g c = record {
  does = (c.end.result, c.done.ensures, record { ended = c.end.ensures.ended; idle = c.end.ensures.idle });
  one_volume = done_so g.S.StoreLike.about g.S.StoreLike.keeps g.S.StoreLike.may_leave_now _ _ no_one _ (done_none c.end.result _ c.done.ensures) c.end.ensures.one_volume;
}
