use Rattle.std.proofs.Common.{◌≡◌, ◌≢◌, ◌<◌, ℕ, ap, subst, sym, ◌∙◌}
use Rattle.std.specs.Prelude.{All}
use Rattle.chain.specs.Chain.{Chained}
use Rattle.chain.specs.Member.{Linked}
use Rattle.chain.proofs.chain.Chain.is_new.Goals as goal

pub returns-then-self-incarnation : goal.returns-then-self-incarnation
returns-then-self-incarnation g c =
    let now = c.args.self.now in
    let about = g.S.StoreLike.about in
    let members : c.deref.result.now ≡ now.members = c.deref.ensures.value ∙ ap (λ (o : Chained g.row.S.Denot). o.members) c.self.view_is in (
      (λ yes. record {
        incarnation = subst (λ (o : Chained g.row.S.Denot). o.youngest < (about c.args.store.now).incarnation) c.self.view_is (subst (λ n. c.self.inside.youngest < n) c.incarnation.ensures.incarnation c.if-self-incarnation.true);
        apart = subst (λ (s : ℕ). All (λ (m : Linked g.row.S.Denot). m.node.state.place.slot ≢ s) now.members) c.slot.ensures
            (subst (All (λ (m : Linked g.row.S.Denot). m.node.state.place.slot ≢ c.slot.result)) members (c.is_free.ensures.0 yes));
      }),
      (λ is. c.is_free.ensures.1 (subst (All (λ (m : Linked g.row.S.Denot). m.node.state.place.slot ≢ c.slot.result)) (sym members)
          (subst (λ (s : ℕ). All (λ (m : Linked g.row.S.Denot). m.node.state.place.slot ≢ s) now.members) (sym c.slot.ensures) is.apart))),
    )
