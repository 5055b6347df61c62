use Rattle.std.proofs.Common.{◌≡◌, ◌∙◌, Option, Some, ap, refl, sym}
use Rattle.chain.specs.Chain.{Chained}
use Rattle.world.specs.World.{Seen}
use Rattle.world.proofs.InnerSteps.{rests_so}
use Rattle.world.proofs.JoiningSteps.{ends_so, joined_more}
use Rattle.world.proofs.world.World.end_join.Goals as goal

pub returns-in_err-reserve-clause-one_volume : goal.returns-in_err-reserve-clause-one_volume
returns-in_err-reserve-clause-one_volume g c = λ premise. rw (← c.self.view_is, c.reserve.ensures.items) (rests_so _ _ _ _ _ refl)

pub returns-in_default-clause-one_volume : goal.returns-in_default-clause-one_volume
returns-in_default-clause-one_volume g c = λ premise. rw (← c.self.view_is, c.reserve.ensures.items) (
    let i = c.self.inside in
    let old : Seen g.row.S.Denot = record { chain = i.chain; sessions = i.clients; queues = i.queues.items; joiner = i.joiner } in
    rests_so g.S.StoreLike.about g.S.StoreLike.keeps g.S.StoreLike.may_leave_now _ _ (ap (λ (j : Option g.row.S.Denot). record old { joiner = j }) (c.take.ensures.after ∙ sym (sym c.take.ensures.value ∙ c.in_default.is))))

pub invariant_of-self-in-Ok : goal.invariant_of-self-in-Ok
invariant_of-self-in-Ok g c =
    let i = c.self.inside in
    rw (c.push_reserved.ensures.items, c.reserve.ensures.items, c.new.ensures)
    (joined_more g.S.StoreLike.about c.into_store.result i.chain c.end_join.new.self i.clients i.queues.items i.joiner c.take.new.self c.in-Ok.ensures.ended.1 c.self.invariant)

pub returns-in-Ok-clause-one_volume : goal.returns-in-Ok-clause-one_volume
returns-in-Ok-clause-one_volume g c = λ premise. rw (← c.self.view_is, c.push_reserved.ensures.items, c.reserve.ensures.items, c.new.ensures) (
    ends_so g.S.StoreLike.about g.S.StoreLike.keeps g.S.StoreLike.may_leave_now _ _ refl c.into_store.result (sym c.take.ensures.value ∙ c.in-Some.is ∙ ap Some (sym c.into_store.ensures.store)) c.take.ensures.after refl (c.in-Ok.ensures.one_volume premise))

pub returns-after-refusal-clause-one_volume : goal.returns-after-refusal-clause-one_volume
returns-after-refusal-clause-one_volume g c = λ premise. rw (← c.self.view_is, c.reserve.ensures.items) (
    let i = c.self.inside in
    let old : Seen g.row.S.Denot = record { chain = i.chain; sessions = i.clients; queues = i.queues.items; joiner = i.joiner } in
    let joiner : Some c.new-in-Err.result ≡ i.joiner = ap Some (c.new-in-Err.ensures ∙ c.in-Err.ensures.back.0 ∙ c.into_store.ensures.store) ∙ sym (sym c.take.ensures.value ∙ c.in-Some.is) in
    rests_so g.S.StoreLike.about g.S.StoreLike.keeps g.S.StoreLike.may_leave_now _ _ (ap (λ (o : Chained g.row.S.Denot). record old { chain = o; joiner = Some c.new-in-Err.result }) c.in-Err.ensures.back.1 ∙ ap (λ (j : Option g.row.S.Denot). record old { joiner = j }) joiner))
