use Rattle.std.proofs.Common.{◌≡◌, ℕ, true, false, sym, subst, ◌∙◌, ◌<◌, length, inl, inr, arith, eq-eqb}
use Rattle.std.specs.Prelude.{Some, slice_get}
use Rattle.std.proofs.lemmas.Bool.{cases_lt, eqb-true}
use Rattle.world.proofs.ManagingSteps.{has_another, is_there, says_so}
use Rattle.world.proofs.management.member_at.Goals as goal
use Rattle.world.proofs.management.member_at.Goals.{else-eq-via-then-eq+else-is_recorded, else-eq-via-else-eq}

pub loop-at-preserved : goal.loop-at-preserved
loop-at-preserved g c = λ k m lt here own yes. elim (cases_lt k c.loop-at.at) [
  | inl before ↦ c.loop-at.invariant k m before here own yes
  | inr behind ↦
      let chain = c.args.world.now.chain in
      let now : k ≡ c.loop-at.at = omega (arith, lt, behind) in
      let its : slice_get chain.members c.loop-at.at ≡ Some m = subst (λ (i : ℕ). slice_get chain.members i ≡ Some m) now here in
      elim c.else-eq.branch [
        | else-eq-via-then-eq+else-is_recorded w ↦
            let clash : false ≡ true = sym w.if-is_recorded.false ∙ says_so chain c.args.slot c.loop-at.at w.is_recorded.result m its w.is_recorded.ensures own ∙ yes in absurd cc
        | else-eq-via-else-eq w ↦
            let same : c.slot.result ≡ c.args.slot = has_another chain c.args.slot c.loop-at.at c.slot.result m its c.slot.ensures own in
            let clash : false ≡ true = sym w.if-eq.false ∙ c.eq.ensures ∙ eq-eqb c.slot.result c.args.slot same in absurd cc
      ]
]

pub returns-then-is_recorded-clause-there : goal.returns-then-is_recorded-clause-there
returns-then-is_recorded-clause-there g c =
    let within : c.loop-at.at < length c.args.world.now.chain.members = omega arith in
    is_there c.args.world.now.chain c.args.slot c.loop-at.at c.slot.result c.is_recorded.result within c.slot.ensures c.is_recorded.ensures
    (eqb-true c.slot.result c.args.slot (sym c.eq.ensures ∙ c.if-eq.true)) c.if-is_recorded.true
