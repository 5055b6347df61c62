use Rattle.std.proofs.Common.{◌≡◌, false, true, ℕ, ap, subst, sym, ◌∙◌}
use Rattle.std.specs.Prelude.{All, None}
use Rattle.chain_steps.specs.Node.{epoch_of}
use Rattle.chain.specs.Chain.{Chained}
use Rattle.chain.specs.Joining.{HoldsAsTail}
use Rattle.chain.specs.Member.{Linked}
use Rattle.chain.specs.Recording.{AllTold}
use Rattle.chain.proofs.Following.{is_none}
use Rattle.chain.proofs.chain.Chain.is_settled.Goals as goal

pub returns-then-not-are_told : goal.returns-then-not-are_told
returns-then-not-are_told g c =
    let now = c.args.self.now in
    let members : c.deref.result.now ≡ now.members = c.deref.ensures.value ∙ ap (λ (o : Chained g.row.S.Denot). o.members) c.self.view_is in
    let epoch : c.epoch.result ≡ now.recorded.epoch = c.epoch.ensures ∙ ap (λ (o : Chained g.row.S.Denot). o.recorded.epoch) c.self.view_is in (
      (λ yes. let clash : false ≡ true = yes in absurd cc),
      (λ is.
          let clash : false ≡ true = sym c.if-not-are_told.true ∙ c.are_told.ensures.1 (subst (All (λ (m : Linked g.row.S.Denot). m.node.state.stopped ≡ None → epoch_of m.node.state ≡ c.epoch.result)) (sym members)
          (subst (λ (e : ℕ). All (λ (m : Linked g.row.S.Denot). m.node.state.stopped ≡ None → epoch_of m.node.state ≡ e) now.members) (sym epoch) is.told)) in absurd cc),
    )

pub returns : goal.returns
returns g c =
    let now = c.args.self.now in
    let members : c.deref.result.now ≡ now.members = c.deref.ensures.value ∙ ap (λ (o : Chained g.row.S.Denot). o.members) c.self.view_is in
    let again : c.deref-2.result.now ≡ now.members = c.deref-2.ensures.value ∙ ap (λ (o : Chained g.row.S.Denot). o.members) c.self.view_is in
    let epoch : c.epoch.result ≡ now.recorded.epoch = c.epoch.ensures ∙ ap (λ (o : Chained g.row.S.Denot). o.recorded.epoch) c.self.view_is in
    let told : AllTold now = subst (λ (e : ℕ). All (λ (m : Linked g.row.S.Denot). m.node.state.stopped ≡ None → epoch_of m.node.state ≡ e) now.members) epoch
    (subst (All (λ (m : Linked g.row.S.Denot). m.node.state.stopped ≡ None → epoch_of m.node.state ≡ c.epoch.result)) members (c.are_told.ensures.0 c.if-not-are_told.false)) in (
      (λ yes. record {
        none = sym (ap (λ (o : Chained g.row.S.Denot). o.writing) c.self.view_is) ∙ is_none c.self.inside.writing (sym c.is_some.ensures ∙ c.if-is_some.false);
        told = told;
        holds = subst (All (λ (m : Linked g.row.S.Denot). HoldsAsTail m.node.state)) again (c.are_holding.ensures.0 yes);
      }),
      (λ is. c.are_holding.ensures.1 (subst (All (λ (m : Linked g.row.S.Denot). HoldsAsTail m.node.state)) (sym again) is.holds)),
    )
