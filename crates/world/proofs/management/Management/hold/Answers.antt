use Rattle.std.proofs.Common.{◌∙◌, inl, refl, subst, sym}
use Rattle.std.specs.Prelude.{None}
use Rattle.clients.specs.Clients.{no_one}
use Rattle.world.specs.Telling.{handed_some}
use Rattle.world.specs.World.{IsOfOneVolume}
use Rattle.world.proofs.CallSteps.{quiet_same}
use Rattle.world.proofs.management.Management.hold.Goals as goal

pub returns-in_default : goal.returns-in_default
returns-in_default g c = record {
  held = tt;
  idle = (inl (λ slot due. c.in_default.not-Hold slot (c.next.ensures ∙ due)), (refl, refl));
  one_volume = λ premise. quiet_same c.args.world.now c.args.world.now None refl refl;
}

pub returns-in_err-at-clause-one_volume : goal.returns-in_err-at-clause-one_volume
returns-in_err-at-clause-one_volume g c = λ premise. quiet_same c.args.world.now c.args.world.now c.from_residual.result c.from_residual.ensures refl

pub returns-in_err-told-clause-one_volume : goal.returns-in_err-told-clause-one_volume
returns-in_err-told-clause-one_volume g c = λ premise.
    subst (λ o. IsOfOneVolume g.S.StoreLike.about g.S.StoreLike.keeps g.S.StoreLike.may_leave_now no_one (handed_some o) c.args.world.now c.hold.new.self) (sym c.from_residual-in_err-told.ensures) (c.in_err-told.ensures.one_volume premise)
