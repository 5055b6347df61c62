use Rattle.std.proofs.Common.{◌∙◌, refl, subst, sym}
use Rattle.chain.specs.Joining.{IsCopyAt}
use Rattle.world.specs.World.{Seen}
use Rattle.world.proofs.JoiningSteps.{is_none, joins_so}
use Rattle.world.proofs.world.World.count_in.Goals as goal

pub returns-in-Ok-clause-one_volume : goal.returns-in-Ok-clause-one_volume
returns-in-Ok-clause-one_volume g c = λ premise copy. rw (← c.self.view_is, c.new.ensures) (
    joins_so g.S.StoreLike.about g.S.StoreLike.keeps g.S.StoreLike.may_leave_now _ _ refl c.args.store (is_none c.self.inside.joiner (sym c.is_some.ensures ∙ c.if-is_some.false)) refl refl
    (c.in-Ok.ensures.one_volume premise (subst (λ (w : Seen g.row.S.Denot). IsCopyAt g.S.StoreLike.keeps c.args.at c.args.store w.chain) (sym c.self.view_is) copy)))
