use Rattle.std.proofs.Common.{◌≡◌, ◌∙◌, ap, subst, sym}
use Rattle.std.specs.Prelude.{All}
use Rattle.std.proofs.lemmas.List.Elements.{All-head, All-tail}
use Rattle.flush_barrier.specs.Reply.{GivenReply}
use Rattle.sessions.specs.Talk.{HasAnswered}
use Rattle.sessions.proofs.Answered.{answered_keeps_id, answered_one_more, answered_or_given_up}
use Rattle.sessions.proofs.talk.Talk.answer_all.Goals as goal

pub answer-requires : goal.answer-requires
answer-requires g c =
    let P : GivenReply → Type 0 = λ reply. reply.session ≡ c.args.self.now.session.id in
    let own = subst (All P) c.in-Some.ensures.steps.0 c.loop-served.invariant.own in
    ap (λ (reply : GivenReply). reply.session) c.reply.ensures ∙ All-head P c.in-Some.served c.next.new.self.rest.items own ∙ sym c.loop-served.invariant.id

pub loop-served-preserved : goal.loop-served-preserved
loop-served-preserved g c =
    let P : GivenReply → Type 0 = λ reply. reply.session ≡ c.args.self.now.session.id in
    let before = c.loop-served.invariant in
    let had = answered_or_given_up c.answer.result c.reply.result c.loop-served.self c.answer.new.self c.answer.ensures.ok c.answer.ensures.err in
    let has = subst (λ reply. HasAnswered reply c.loop-served.self c.answer.new.self) c.reply.ensures had in record {
      answered = answered_one_more c.loop-served.yielded c.in-Some.served c.args.self.now c.loop-served.self c.answer.new.self before.answered has;
      id = answered_keeps_id c.in-Some.served c.loop-served.self c.answer.new.self has ∙ before.id;
      own = All-tail P c.in-Some.served c.next.new.self.rest.items (subst (All P) c.in-Some.ensures.steps.0 before.own);
    }
