use Rattle.std.proofs.Common.{◌≡◌, ◌∙◌, ◌<◌, true, false, Option, Some, None, ℕ, List, length, ap, arith, refl, subst, sym}
use Rattle.std.specs.Prelude.{All, is_some, slice_get}
use Rattle.std.proofs.lemmas.Option.{slice_get_within}
use Rattle.configurations.specs.declared.epoch.Epoch.{Epoch}
use Rattle.chain_steps.specs.Node.{epoch_of}
use Rattle.chain_steps.specs.Place.{incarnation_in}
use Rattle.chain.specs.Chain.{Chained}
use Rattle.chain.specs.Member.{Linked}
use Rattle.chain.specs.Recording.{AllTold}
use Rattle.chain.proofs.Stepping.{read_at}
use Rattle.chain.proofs.chain.Chain.may_forget.Goals as goal

is_none : (o : Option ℕ) → false ≡ is_some o → o ≡ None
is_none None is = refl
is_none (Some n) is = let clash : false ≡ true = is in absurd (cc)

more : (n m : ℕ) → n ≡ m → (n ≡ 1 → ⊥) → 0 < m → 1 < m
more n m same other some = omega (arith, same, other, some)

pub returns : goal.returns
returns g c =
    let m = c.index-member.result.now in
    let here : slice_get c.args.self.now.members c.args.at ≡ Some m =
    subst (λ (o : Chained g.row.S.Denot). slice_get o.members c.args.at ≡ Some m) c.self.view_is (read_at _ _ c.args.at _ c.self.view_is c.requires c.index-member.ensures) in
    let within : c.args.at < length c.args.self.now.members = slice_get_within c.args.self.now.members c.args.at m here in
    let long : c.len.result ≡ length c.args.self.now.members = c.len.ensures ∙ sym c.deref.ensures.len ∙ ap length c.deref.ensures.value ∙ ap (λ (o : Chained g.row.S.Denot). length o.members) c.self.view_is in (
      (λ yes. record {
        member = m;
        here = here;
        out = ap (λ (o : Chained g.row.S.Denot). incarnation_in o.recorded m.node.state.place.slot) (sym c.self.view_is)
            ∙ ap (incarnation_in c.self.inside.recorded) (sym c.slot.ensures) ∙ sym c.incarnation_in.ensures ∙ is_none c.incarnation_in.result c.if-is_some.ensures;
        idle = c.is_idle.ensures.0 c.if-not-is_idle.false;
        others = more c.len.result (length c.args.self.now.members) long c.if-len-eq1.false (omega (arith, within));
        told = subst AllTold c.self.view_is (subst (λ (ms : List (Linked g.row.S.Denot)). All (λ x. x.node.state.stopped ≡ None → epoch_of x.node.state ≡ c.self.inside.recorded.epoch) ms) c.deref.ensures.value
            (subst (λ (e : Epoch). All (λ (x : Linked g.row.S.Denot). x.node.state.stopped ≡ None → epoch_of x.node.state ≡ e) c.deref.result.now) c.epoch.ensures (c.are_told.ensures.0 yes)));
      }),
      (λ may. c.are_told.ensures.1 (subst (λ (e : Epoch). All (λ (x : Linked g.row.S.Denot). x.node.state.stopped ≡ None → epoch_of x.node.state ≡ e) c.deref.result.now) (sym c.epoch.ensures)
          (subst (λ (ms : List (Linked g.row.S.Denot)). All (λ x. x.node.state.stopped ≡ None → epoch_of x.node.state ≡ c.self.inside.recorded.epoch) ms) (sym c.deref.ensures.value)
          (subst AllTold (sym c.self.view_is) may.told)))),
    )
