use Rattle.std.proofs.Common.{◌∙◌, refl, sym}
use Rattle.world.proofs.InnerSteps.{rests_so}
use Rattle.world.proofs.JoiningSteps.{gives_up_so, is_none}
use Rattle.world.proofs.world.World.give_up.Goals as goal

pub returns-then-is_writing-clause-one_volume : goal.returns-then-is_writing-clause-one_volume
returns-then-is_writing-clause-one_volume g c = λ premise. rests_so _ _ _ _ _ refl

pub returns-clause-one_volume : goal.returns-clause-one_volume
returns-clause-one_volume g c = λ premise. rw (← c.self.view_is) (gives_up_so g.S.StoreLike.about g.S.StoreLike.keeps g.S.StoreLike.may_leave_now _ _ refl (is_none c.self.inside.chain.writing (sym c.is_writing.ensures ∙ c.if-is_writing.false)) refl refl c.take.ensures.after)
