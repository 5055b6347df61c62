use Rattle.std.proofs.Common.{◌≡◌, ◌∙◌, Some, ap, inl, inr, refl, sym}
use Rattle.std.proofs.lemmas.Bool.{cases_Bool}
use Rattle.chain.specs.Chain.{Chained}
use Rattle.world.specs.World.{Seen}
use Rattle.world.proofs.InnerSteps.{rests_so}
use Rattle.world.proofs.JoiningSteps.{begins_so}
use Rattle.world.proofs.world.World.begin_join.Goals as goal

pub returns-in-Some-clause-one_volume : goal.returns-in-Some-clause-one_volume
returns-in-Some-clause-one_volume g c = λ premise. rw (← c.self.view_is) (
    let i = c.self.inside in
    let old : Seen g.row.S.Denot = record { chain = i.chain; sessions = i.clients; queues = i.queues.items; joiner = i.joiner } in
    let joins : i.joiner ≡ Some c.store.result.now = c.in-Some.is ∙ ap Some (sym c.store.ensures) in
    elim (cases_Bool c.begin_join.result) [
      | inl did ↦ begins_so g.S.StoreLike.about g.S.StoreLike.keeps g.S.StoreLike.may_leave_now _ _ refl c.store.result.now joins joins refl (c.begin_join.ensures.one_volume premise did)
      | inr rests ↦ rests_so g.S.StoreLike.about g.S.StoreLike.keeps g.S.StoreLike.may_leave_now _ _ (ap (λ (o : Chained g.row.S.Denot). record old { chain = o }) (c.begin_join.ensures.idle rests).1)
    ])

pub returns-in-None-clause-one_volume : goal.returns-in-None-clause-one_volume
returns-in-None-clause-one_volume g c = λ premise. rests_so _ _ _ _ _ refl
