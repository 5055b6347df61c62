use Rattle.std.proofs.Common.{ap, refl, subst, sym, Some, ◌∙◌}
use Rattle.clients.specs.Clients.{no_one}
use Rattle.life.specs.Does.{TellsFed}
use Rattle.life.specs.declared.answer.Answer.TheVariants.{Refused}
use Rattle.life.proofs.Answering.{fed_err, fed_none, fed_ok}
use Rattle.life.proofs.playing.feed.Goals as goal

pub returns-in_default : goal.returns-in_default
returns-in_default g c = record {
  does = (c.feed.result, subst (λ x. TellsFed x _) (sym c.in_default.is) refl, record { fed = c.feed.ensures.fed; none = c.feed.ensures.none; known = c.feed.ensures.known; over = c.feed.ensures.over; err = c.feed.ensures.err });
  one_volume = fed_none g.S.StoreLike.about g.S.StoreLike.keeps g.S.StoreLike.may_leave_now _ _ c.args.session c.args.piece.now c.feed.result c.in_default.is c.feed.ensures.one_volume;
}

pub returns-in-Ok : goal.returns-in-Ok
returns-in-Ok g c = record {
  does = (c.feed.result, subst (λ x. TellsFed x c.silent.result) (sym (c.in-Some.is ∙ ap (λ r. Some r) c.in-Ok.is)) c.silent.ensures, record { fed = c.feed.ensures.fed; none = c.feed.ensures.none; known = c.feed.ensures.known; over = c.feed.ensures.over; err = c.feed.ensures.err });
  one_volume = fed_ok g.S.StoreLike.about g.S.StoreLike.keeps g.S.StoreLike.may_leave_now _ _ no_one _ c.args.session c.args.piece.now c.feed.result _ (c.in-Some.is ∙ ap (λ r. Some r) c.in-Ok.is) c.silent.ensures c.feed.ensures.one_volume;
}

pub returns-in-Err : goal.returns-in-Err
returns-in-Err g c = record {
  does = (c.feed.result, subst (λ x. TellsFed x (Refused c.number.result)) (sym (c.in-Some.is ∙ ap (λ r. Some r) c.in-Err.is)) (ap (λ n. Refused n) c.number.ensures), record { fed = c.feed.ensures.fed; none = c.feed.ensures.none; known = c.feed.ensures.known; over = c.feed.ensures.over; err = c.feed.ensures.err });
  one_volume = fed_err g.S.StoreLike.about g.S.StoreLike.keeps g.S.StoreLike.may_leave_now _ _ c.args.session c.args.piece.now c.feed.result _ (c.in-Some.is ∙ ap (λ r. Some r) c.in-Err.is) c.feed.ensures.one_volume;
}
