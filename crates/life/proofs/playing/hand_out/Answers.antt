use Rattle.std.proofs.Common.{ap, sym}
use Rattle.life.specs.Does.{handed_out_in}
use Rattle.life.proofs.Answering.{handed_nothing}
use Rattle.life.proofs.playing.hand_out.Goals as goal

pub returns-in-Some-clause-does : goal.returns-in-Some-clause-does
returns-in-Some-clause-does g c = (c.hand_out.result, sym (ap handed_out_in c.in-Some.is), c.hand_out.ensures.out)

pub returns-in-None : goal.returns-in-None
returns-in-None g c = record {
  does = (c.hand_out.result, sym (ap handed_out_in c.in-None.is), c.hand_out.ensures.out);
  one_volume = handed_nothing g.S.StoreLike.about g.S.StoreLike.keeps g.S.StoreLike.may_leave_now _ _ c.args.session c.hand_out.result c.in-None.is c.hand_out.ensures.one_volume;
}
