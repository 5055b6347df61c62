use Rattle.std.proofs.Common.{Err, ap}
use Rattle.cluster.proofs.Lent.{full_alone, runs_on}
use Rattle.cluster.proofs.seated.Seated.begin_if_due.Goals as goal

pub returns-in-Err-clause-full : goal.returns-in-Err-clause-full
returns-in-Err-clause-full g c =
    let runs = (c.due.ensures.commit.0 c.if-due.true).0 in
    let is = full_alone c.in-Err.refusal c.in-Err.ensures.refused (λ stopped. runs_on c.args.self.now.member.node.state runs (c.in-Err.ensures.stopped.0 (ap Err stopped))) in
    let full = c.in-Err.ensures.full (ap Err is) in
    (is, full.0, full.1)
