use Rattle.std.proofs.Common.{refl, arith}
use Rattle.clients.specs.Clients.{no_one}
use Rattle.life.proofs.Answering.{begun_or, still, tried_so}
use Rattle.life.proofs.playing.begin_commits.Goals as goal

pub returns-then-most-eq0 : goal.returns-then-most-eq0
returns-then-most-eq0 g c = record {
  does = record { none = λ _. (refl, refl); some = λ positive. absurd (omega (arith, positive, c.if-most-eq0.true)) };
  one_volume = λ premise. still g.S.StoreLike.about g.S.StoreLike.keeps g.S.StoreLike.may_leave_now _;
}

pub returns : goal.returns
returns g c = record {
  does = record {
    none = λ zero. absurd (omega (arith, zero, c.if-most-eq0.false));
    some = λ _. (c.begin_commits.result, c.tried.ensures, record { done = begun_or _ _ _ _ c.begin_commits.result c.begin_commits.ensures.done c.begin_commits.ensures.idle; refused = c.begin_commits.ensures.refused; any_moment = c.begin_commits.ensures.any_moment });
  };
  one_volume = λ premise. tried_so g.S.StoreLike.about g.S.StoreLike.keeps g.S.StoreLike.may_leave_now _ _ no_one _ c.begin_commits.result c.tried.ensures (c.begin_commits.ensures.one_volume premise);
}
