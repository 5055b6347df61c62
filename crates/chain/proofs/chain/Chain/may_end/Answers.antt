use Rattle.std.proofs.Common.{◌≡◌, false, true, ℕ, ap, sym, subst, ◌∙◌}
use Rattle.std.specs.Prelude.{All, None, Option, Some}
use Rattle.configurations.specs.Record.{Record}
use Rattle.chain_steps.specs.Node.{epoch_of}
use Rattle.chain.specs.Chain.{Chained}
use Rattle.chain.specs.Member.{Linked}
use Rattle.chain.proofs.chain.Chain.may_end.Goals as goal

pub returns-then-is_next : goal.returns-then-is_next
returns-then-is_next g c =
    let now = c.args.self.now in
    let begun : now.writing ≡ Some c.in-Some.next = sym (ap (λ (o : Chained g.row.S.Denot). o.writing) c.self.view_is) ∙ c.in-Some.is in
    let members : c.deref.result.now ≡ now.members = c.deref.ensures.value ∙ ap (λ (o : Chained g.row.S.Denot). o.members) c.self.view_is in
    let epoch : c.epoch.result ≡ now.recorded.epoch = c.epoch.ensures ∙ ap (λ (o : Chained g.row.S.Denot). o.recorded.epoch) c.self.view_is in (
      (λ yes. record {
        next = c.in-Some.next;
        begun = begun;
        follows = c.is_next.ensures.0 c.if-is_next.true;
        told = subst (λ (e : ℕ). All (λ (m : Linked g.row.S.Denot). m.node.state.stopped ≡ None → epoch_of m.node.state ≡ e) now.members) epoch
            (subst (All (λ (m : Linked g.row.S.Denot). m.node.state.stopped ≡ None → epoch_of m.node.state ≡ c.epoch.result)) members (c.are_told.ensures.0 yes));
      }),
      λ may. c.are_told.ensures.1 (subst (All (λ (m : Linked g.row.S.Denot). m.node.state.stopped ≡ None → epoch_of m.node.state ≡ c.epoch.result)) (sym members)
          (subst (λ (e : ℕ). All (λ (m : Linked g.row.S.Denot). m.node.state.stopped ≡ None → epoch_of m.node.state ≡ e) now.members) (sym epoch) may.told)),
    )

pub returns-in-None : goal.returns-in-None
returns-in-None g c = (
  (λ yes. let clash : false ≡ true = yes in absurd cc),
  λ may. let clash : ◌≡◌ {A = Option Record} None (Some may.next) = sym c.in-None.is ∙ ap (λ (o : Chained g.row.S.Denot). o.writing) c.self.view_is ∙ may.begun in absurd cc,
)
