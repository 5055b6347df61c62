use Rattle.std.proofs.Common.{◌≡◌, ℕ, subst, sym, ◌∙◌}
use Rattle.std.specs.Prelude.{Some, slice_get}
use Rattle.std.proofs.lemmas.Option.{same_Some}
use Rattle.chain.specs.Chain.{Chained}
use Rattle.chain.specs.Joining.{IsHolding}
use Rattle.chain.specs.Member.{Linked}
use Rattle.chain.proofs.Stepping.{read_at}
use Rattle.chain.proofs.chain.Chain.may_count_in.Goals as goal

pub returns : goal.returns
returns g c =
    let m = c.index.result.now in
    let here : slice_get c.args.self.now.members c.args.at ≡ Some m =
    subst (λ (o : Chained g.row.S.Denot). slice_get o.members c.args.at ≡ Some m) c.self.view_is (read_at _ _ c.args.at _ c.self.view_is c.requires c.index.ensures) in (
      (λ yes. record {
        holder = m;
        here = here;
        holding = subst (λ (f : ℕ). IsHolding f m.node.state) c.front.ensures.front (c.is_holding.ensures.0 yes);
        its = c.is_own.ensures.0 c.if-not-is_own.false;
        settled = c.is_settled.ensures.0 c.if-not-is_settled.false;
        new = c.is_new.ensures.0 c.if-not-is_new.false;
      }),
      (λ may. c.is_holding.ensures.1 (subst (λ (f : ℕ). IsHolding f m.node.state) (sym c.front.ensures.front)
          (subst (λ (x : Linked g.row.S.Denot). IsHolding (g.S.StoreLike.about c.args.store.now).front x.node.state) (same_Some may.holder m (sym may.here ∙ here)) may.holding))),
    )
