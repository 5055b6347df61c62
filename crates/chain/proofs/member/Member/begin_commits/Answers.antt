use Rattle.std.proofs.Common.{◌≡◌, true, false, Err, None, ap, sym, inl, inr, arith, ◌∙◌}
use Rattle.std.specs.Prelude.{is_some}
use Rattle.chain_steps.specs.Node.{NodeState, is_stopped}
use Rattle.disk_model.specs.Moments.{started}
use Rattle.local_store.specs.About.{meaning_with}
use Rattle.local_store.specs.Meaning.{Means}
use Rattle.chain.proofs.member.Member.begin_commits.Goals as goal

pub returns-then-is_some-clause-any_moment : goal.returns-then-is_some-clause-any_moment
returns-then-is_some-clause-any_moment g c = λ premise volume keep.
    started g.S.StoreLike.moment g.S.StoreLike.may_have_left_since c.args.self.now.node.store (Means (meaning_with (g.S.StoreLike.about c.args.self.now.node.store) volume))
    (λ d left. g.met.S.StoreLike.means_now premise c.args.self.now.node.store volume d keep (g.met.S.StoreLike.only_now premise c.args.self.now.node.store d left))

pub returns-then-not-can_begin-clause-any_moment : goal.returns-then-not-can_begin-clause-any_moment
returns-then-not-can_begin-clause-any_moment g c = λ premise volume keep.
    started g.S.StoreLike.moment g.S.StoreLike.may_have_left_since c.args.self.now.node.store (Means (meaning_with (g.S.StoreLike.about c.args.self.now.node.store) volume))
    (λ d left. g.met.S.StoreLike.means_now premise c.args.self.now.node.store volume d keep (g.met.S.StoreLike.only_now premise c.args.self.now.node.store d left))

pub returns-in-Err-clause-refused : goal.returns-in-Err-clause-refused
returns-in-Err-clause-refused g c =
    let e = c.in-Err.ensures in
    let runs : c.self.inside.node.state.stopped ≡ None = grind (arith, c.if-is_some.false, c.is_some.ensures, c.stopped.ensures) in
    rw (← c.self.view_is) (elim e.refused [
      | inl full ↦ inl (
        full,
        record {
          runs = runs;
          can = (e.full (ap Err full)).0;
          none = (e.full (ap Err full)).1;
          only_read = e.unchanged.1;
          are = ap (λ (st : NodeState). record { node = record { store = c.begin_commits.new.self.store; state = st }; front = c.self.inside.front; muster = c.self.inside.muster; receipt = c.self.inside.receipt }) e.unchanged.0;
        },
      )
      | inr stopped ↦
          let is : is_stopped c.self.inside.node.state ≡ true = e.stopped.0 (ap Err stopped) in
          let both : true ≡ false = sym is ∙ ap is_some runs in
          absurd (cc)
    ])
