use Rattle.std.proofs.Common.{◌≡◌, false, true, ℕ, ◌+◌, ◌++◌, List, length, drop, take, refl, ap, sym, subst, ◌∙◌, inl, inr, arith}
use Rattle.std.specs.Prelude.{IsTrue, Some, slice_get}
use Rattle.std.proofs.lemmas.Bool.{cases_lt}
use Rattle.std.proofs.lemmas.Option.{same_Some, slice_get_read}
use Rattle.configurations.specs.declared.member.Member as recorded
use Rattle.chain.specs.Chain.{Chained}
use Rattle.chain.specs.Member.{Linked}
use Rattle.chain.specs.Recording.{HasStoppedThere}
use Rattle.chain.proofs.Following.{leaves_none, leaves_out}
use Rattle.chain.proofs.chain.Chain.leaves_one_out.Goals as goal
use Rattle.chain.proofs.chain.Chain.leaves_one_out.Goals.{else-is_without-via-then-is_without+else-have_stopped, else-is_without-via-else-is_without}

pub returns-then-have_stopped : goal.returns-then-have_stopped
returns-then-have_stopped g c =
    let here : slice_get c.members-recorded.result.now c.loop-at.at ≡ Some c.index-recorded-at.result =
    slice_get_read c.members-recorded.result.now (length c.members-recorded.result.now) c.loop-at.at c.index-recorded-at.result refl c.loop-at-test.true c.index-recorded-at.is in
    let members : c.deref.result.now ≡ c.args.self.now.members = c.deref.ensures.value ∙ ap (λ (o : Chained g.row.S.Denot). o.members) c.self.view_is in
    let stopped : HasStoppedThere c.index-recorded-at.result.slot c.deref.result.now = subst (λ (m : recorded.Member). HasStoppedThere m.slot c.deref.result.now) (sym c.index-recorded-at.is) (c.have_stopped.ensures.0 c.if-have_stopped.true) in (
      (λ yes. leaves_out c.args.self.now c.args.next.now c.members-recorded.result.now c.loop-at.invariant.same c.loop-at.at c.index-recorded-at.result here
          (sym c.members.ensures.members ∙ c.is_without.ensures.0 c.if-is_without.true) (subst (λ (ms : List (Linked g.row.S.Denot)). HasStoppedThere c.index-recorded-at.result.slot ms) members stopped)),
      λ is. refl,
    )

pub loop-at-preserved : goal.loop-at-preserved
loop-at-preserved g c = record {
  same = c.loop-at.invariant.same;
  none = λ k m lt here are stopped. elim (cases_lt k c.loop-at.at) [
    | inl before ↦ c.loop-at.invariant.none k m before here are stopped
    | inr behind ↦
        let now : k ≡ c.loop-at.at = omega (arith, lt, behind) in
        let leaves : c.members.result.now ≡ take c.loop-at.at c.members-recorded.result.now ++ drop (c.loop-at.at + 1) c.members-recorded.result.now =
        c.members.ensures.members ∙ subst (λ (i : ℕ). c.args.next.now.members ≡ take i c.members-recorded.result.now ++ drop (i + 1) c.members-recorded.result.now) now are in
        elim c.else-is_without.branch [
          | else-is_without-via-then-is_without+else-have_stopped w ↦
              let its : slice_get c.members-recorded.result.now c.loop-at.at ≡ Some w.index-recorded-at.result =
              slice_get_read c.members-recorded.result.now (length c.members-recorded.result.now) c.loop-at.at w.index-recorded-at.result refl c.loop-at-test.true w.index-recorded-at.is in
              let same : m ≡ w.index-recorded-at.result = same_Some m w.index-recorded-at.result (sym (subst (λ (i : ℕ). slice_get c.members-recorded.result.now i ≡ Some m) now here) ∙ its) in
              let members : w.deref.result.now ≡ c.args.self.now.members = w.deref.ensures.value ∙ ap (λ (o : Chained g.row.S.Denot). o.members) c.self.view_is in
              let there : HasStoppedThere m.slot w.deref.result.now = subst (λ (ms : List (Linked g.row.S.Denot)). HasStoppedThere m.slot ms) (sym members) stopped in
              let told : IsTrue w.have_stopped.result = w.have_stopped.ensures.1 (subst (λ (x : recorded.Member). HasStoppedThere x.slot w.deref.result.now) (same ∙ w.index-recorded-at.is) there) in
              let clash : false ≡ true = sym w.if-have_stopped.false ∙ told in absurd cc
          | else-is_without-via-else-is_without w ↦ let clash : false ≡ true = sym w.if-is_without.false ∙ c.is_without.ensures.1 leaves in absurd cc
        ]
  ];
}

pub returns : goal.returns
returns g c = (
  (λ no. let clash : false ≡ true = no in absurd cc),
  λ is. absurd (leaves_none c.args.self.now c.args.next.now c.members-recorded.result.now c.loop-at.invariant.same (λ k m lt. c.loop-at.invariant.none k m (let end = c.loop-at-test.false in omega (arith, lt, end))) is),
)
