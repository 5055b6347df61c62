use Rattle.std.proofs.Common.{◌≡◌, ◌++◌, ◌∷◌, [], ℕ, arith, ap, sym, ◌∙◌}
use Rattle.configurations.specs.declared.member.Member as recorded
use Rattle.chain.specs.Chain.{Chained}
use Rattle.chain.specs.Opening.{recorded_in}
use Rattle.chain.proofs.chain.Chain.adds.Goals as goal

pub returns-clause-added : goal.returns-clause-added
returns-clause-added g c =
    let about = g.S.StoreLike.about in
    let now = c.args.self.now in
    let store = c.args.store.now in
    let next = c.args.next.now in
    let entry : recorded.Member = record { slot = c.slot.result; incarnation = c.number-epoch.result } in
    let recorded_are : c.members-recorded.result.now ≡ now.recorded.members = c.members-recorded.ensures.members ∙ ap (λ (o : Chained g.row.S.Denot). o.recorded.members) c.self.view_is in
    let epoch : c.number-epoch.result ≡ next.epoch = c.number-epoch.ensures.number ∙ c.epoch.ensures in
    let was : c.number.result ≡ now.recorded.epoch = c.number.ensures.number ∙ c.epoch-2.ensures ∙ ap (λ (o : Chained g.row.S.Denot). o.recorded.epoch) c.self.view_is in
    let more = c.if-epoch-number.false in
    let its : entry ≡ recorded_in about store =
    ap (λ (s : ℕ). let m : recorded.Member = record { slot = s; incarnation = c.number-epoch.result } in m) c.slot.ensures
    ∙ ap (λ (n : ℕ). let m : recorded.Member = record { slot = (about store).slot; incarnation = n } in m) (sym c.if-incarnation-epoch.false ∙ c.incarnation.ensures.incarnation) in
    let with_it : c.members-recorded.result.now ++ entry ∷ [] ≡ now.recorded.members ++ recorded_in about store ∷ [] =
    ap (λ ms. ms ++ entry ∷ []) recorded_are ∙ ap (λ e. now.recorded.members ++ e ∷ []) its in (
      (λ yes. record {
        sizes = sym c.geometry.ensures ∙ c.have_same_sizes.ensures.0 c.if-not-have_same_sizes.false ∙ ap (λ (o : Chained g.row.S.Denot). o.geometry) c.self.view_is;
        epoch = omega (arith, epoch, more, was);
        incarnation = sym c.incarnation.ensures.incarnation ∙ c.if-incarnation-epoch.false ∙ epoch;
        members = sym c.members-members.ensures.members ∙ c.is_with.ensures.0 yes ∙ with_it;
      }),
      (λ is. c.is_with.ensures.1 (c.members-members.ensures.members ∙ is.members ∙ sym with_it)),
    )
