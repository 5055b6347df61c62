use Rattle.std.proofs.Common.{[], refl, sym, ap, rules, arith}
use Rattle.chain_steps.specs.Node.{Out}
use Rattle.chain.proofs.AnswerSteps.{without_messages}
use Rattle.chain.proofs.member.Member.answer_front.Goals as goal

pub returns-clause-answered : goal.returns-clause-answered
returns-clause-answered g c = rw (← c.self.view_is) (record {
  had = λ none. absurd (grind (arith, none, c.looked_front.ensures, c.is_none.ensures, c.if-is_none.false));
  did = record {
    out = record { messages = []; replies = c.answer_front.result.replies };
    runs = search rules;
    did = without_messages g.S.StoreLike.keeps_model g.S.StoreLike.about g.S.StoreLike.failures g.S.StoreLike.keeps g.S.StoreLike.moment g.S.StoreLike.may_have_left_since g.S.StoreLike.may_leave_now _ c.answer_front.new.self c.answer_front.result c.answer_front.ensures.step;
    silent = refl;
    told = sym (ap (λ (out : Out). out.replies) c.result.view_is);
    are = refl;
  };
})
