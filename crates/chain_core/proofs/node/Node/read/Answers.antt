use Rattle.std.proofs.Common.{◌≡◌, subst, sym, ◌∙◌}
use Rattle.disk_model.specs.Disk.{LeavesOnly}
use Rattle.local_store.specs.About.{meaning_with}
use Rattle.local_store.specs.Meaning.{Means}
use Rattle.tail_query.specs.declared.ways.Plan.TheVariants.{Ask, Local}
use Rattle.version_table.specs.Held.{IsClean}
use Rattle.chain_core.proofs.StoreReads.{run_first}
use Rattle.chain_core.proofs.node.Node.read.Goals as goal

pub returns-in-Some-clause-any_moment : goal.returns-in-Some-clause-any_moment
returns-in-Some-clause-any_moment g c = run_first g.S.StoreLike.about g.S.StoreLike.keeps g.S.StoreLike.moment g.S.StoreLike.may_have_left_since g.S.StoreLike.may_leave_now g.met.S.StoreLike.means_now g.met.S.StoreLike.only_now c.args.self.now.store

pub read_at_once-requires-clause-clean : goal.read_at_once-requires-clause-clean
read_at_once-requires-clause-clean g c = subst (λ s. IsClean s.state.table c.args.offset c.args.length s.state.known) c.self.view_is (c.plan.ensures.local.0 c.in-Local.is)

pub returns-in-Local-clause-waits : goal.returns-in-Local-clause-waits
returns-in-Local-clause-waits g c = λ dirty. absurd (dirty (subst (λ s. IsClean s.state.table c.args.offset c.args.length s.state.known) c.self.view_is (c.plan.ensures.local.0 c.in-Local.is)))

pub returns-in-Ask-clause-at_once : goal.returns-in-Ask-clause-at_once
returns-in-Ask-clause-at_once g c = λ clean.
    let both : Ask ≡ Local = sym c.in-Ask.is ∙ c.plan.ensures.local.1 (subst (λ s. IsClean s.state.table c.args.offset c.args.length s.state.known) (sym c.self.view_is) clean) in
    absurd (cc)

pub returns-in-Ask-clause-any_moment : goal.returns-in-Ask-clause-any_moment
returns-in-Ask-clause-any_moment g c = λ here volume kept.
    subst (λ s. LeavesOnly g.S.StoreLike.moment g.S.StoreLike.may_have_left_since c.args.self.now.store s (Means (meaning_with (g.S.StoreLike.about c.args.self.now.store) volume))) (sym c.read_asked.ensures.store)
    (run_first g.S.StoreLike.about g.S.StoreLike.keeps g.S.StoreLike.moment g.S.StoreLike.may_have_left_since g.S.StoreLike.may_leave_now g.met.S.StoreLike.means_now g.met.S.StoreLike.only_now c.args.self.now.store here volume kept)
