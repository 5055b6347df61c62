use Rattle.std.proofs.Common.{rules, ◌≡◌, List, [], ℕ, sym, subst}
use Rattle.nbd_session.specs.Lawful.{HasHistory, handed_out}
use Rattle.nbd_session.proofs.Endings.{stands_handed}
use Rattle.nbd_session.proofs.session.Session.output.Goals as goal

pub returns-clause-lawful : goal.returns-clause-lawful
returns-clause-lawful c history stands =
    let now = c.args.self.now in
    let out : [] ≡ c.replace.new.dest.items = search rules in
    let kept : HasHistory (record now { output = c.replace.new.dest.items }) (handed_out now history) =
    subst (λ (l : List ℕ). HasHistory (record now { output = l }) (handed_out now history)) out (stands_handed now history stands) in
    subst (λ s. HasHistory (record s { output = c.replace.new.dest.items }) (handed_out now history)) (sym c.self.view_is) kept
