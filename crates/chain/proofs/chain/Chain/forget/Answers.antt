use Rattle.std.proofs.Common.{◌≡◌, Some, refl, subst}
use Rattle.std.specs.Prelude.{slice_get}
use Rattle.chain.specs.Chain.{Chained}
use Rattle.chain.proofs.ForgettingSteps.{forgets_goes, forgotten_formed}
use Rattle.chain.proofs.Stepping.{read_at}
use Rattle.chain.proofs.chain.Chain.forget.Goals as goal

pub invariant_of-self : goal.invariant_of-self
invariant_of-self g c = rw (c.remove.ensures.items) (forgotten_formed _ c.args.at c.remove.result (read_at _ _ c.args.at _ c.self.view_is c.requires c.remove.ensures.value) _ c.self.invariant)

pub returns-clause-forgotten : goal.returns-clause-forgotten
returns-clause-forgotten g c = (c.may_forget.ensures.0 c.if-not-may_forget.false, record { member = c.remove.result; here = subst (λ (o : Chained g.row.S.Denot). slice_get o.members c.args.at ≡ Some c.remove.result) c.self.view_is (read_at _ _ c.args.at _ c.self.view_is c.requires c.remove.ensures.value); its = c.abandon.ensures; are = rw (← c.self.view_is, c.remove.ensures.items) refl })

pub returns-clause-one_volume : goal.returns-clause-one_volume
returns-clause-one_volume g c = λ premise v s shows nothing stands.
    rw (← c.self.view_is, c.remove.ensures.items) (forgets_goes _ c.args.at c.remove.result (read_at _ _ c.args.at _ c.self.view_is c.requires c.remove.ensures.value) g.S.StoreLike.about g.S.StoreLike.keeps g.S.StoreLike.may_leave_now v (rw c.self.view_is shows) nothing (rw c.self.view_is (c.may_forget.ensures.0 c.if-not-may_forget.false)))
