use Rattle.std.proofs.Common.{◌∙◌, ap}
use Rattle.cluster.proofs.Asks.{answered_asks}
use Rattle.cluster.proofs.seated.Seated.answer_front.Goals as goal

pub returns-then-due-clause-answered : goal.returns-then-due-clause-answered
returns-then-due-clause-answered g c = λ asks.
    let kept = c.look.ensures.kept in
    let runs = ap (λ n. n.state.stopped) kept.node ∙ (c.due.ensures.front.0 c.if-due.true).0 in
    let answered = c.answer_front.ensures.answered runs in
    answered_asks _ _ _ _ _ answered.out kept.front answered.calls (ap (λ n. n.state.found) kept.node) asks.0 asks.1

pub returns-then-due-clause-looked : goal.returns-then-due-clause-looked
returns-then-due-clause-looked g c =
    let asked = c.due.ensures.front.0 c.if-due.true in
    let runs = ap (λ n. n.state.stopped) c.look.ensures.kept.node ∙ asked.0 in (
      λ asks. record {
        front = c.look.result;
        between = c.look.new.self;
        found = c.look.ensures.kept;
        unsent = c.look.ensures.unsent;
        called = record { replies = c.answer_front.result.items; calls = c.answer_front.ensures.answered runs; given = c.add.ensures.replies };
      },
      λ idle. absurd (idle asked),
    )
