use Rattle.std.proofs.Common.{◌≡◌, [], Some, ap, length, refl, subst, sym, ◌∙◌}
use Rattle.std.specs.Prelude.{slice_get}
use Rattle.std.proofs.lemmas.Option.{slice_get_read}
use Rattle.chain.specs.Chain.{Chained}
use Rattle.chain.specs.Forgetting.{HasForgotten, MayForget}
use Rattle.clients.specs.Clients.{GoOn, Sessions, no_one}
use Rattle.world.specs.World.{Seen}
use Rattle.world.proofs.ForgettingSteps.{forgets_so, forgotten_less}
use Rattle.world.proofs.InnerSteps.{rests_so}
use Rattle.world.proofs.world.World.forget.Goals as goal

pub returns-then-not-is_empty-clause-one_volume : goal.returns-then-not-is_empty-clause-one_volume
returns-then-not-is_empty-clause-one_volume g c = λ premise. rw (← c.self.view_is) (rests_so _ _ _ _ _ refl)

pub returns-in_err-store-clause-one_volume : goal.returns-in_err-store-clause-one_volume
returns-in_err-store-clause-one_volume g c = λ premise. rw (← c.self.view_is) (
    let i = c.self.inside in
    let old : Seen g.row.S.Denot = record { chain = i.chain; sessions = i.clients; queues = i.queues.items; joiner = i.joiner } in
    rests_so g.S.StoreLike.about g.S.StoreLike.keeps g.S.StoreLike.may_leave_now _ _ (ap (λ (o : Chained g.row.S.Denot). record old { chain = o }) c.in_err-store.ensures.idle.1))

pub invariant_of-self-2 : goal.invariant_of-self-2
invariant_of-self-2 g c = rw (c.remove.ensures.items, c.leave.ensures.left)
    (forgotten_less c.self.inside.chain c.forget.new.self c.self.inside.clients c.self.inside.queues.items c.self.inside.joiner c.args.at c.in_ok-store.store c.in_ok-store.ensures.forgotten.0 c.in_ok-store.ensures.forgotten.1 c.self.invariant)

pub returns-clause-forgotten : goal.returns-clause-forgotten
returns-clause-forgotten g c =
    let view = c.self.view_is in
    let empty : slice_get c.self.inside.queues.items c.args.at ≡ Some [] =
    slice_get_read c.self.inside.queues.items (length c.args.self.now.chain.members) c.args.at c.index.result.now (ap (λ (w : Seen g.row.S.Denot). length w.chain.members) (sym view) ∙ sym c.self.invariant.queues) c.requires c.index.ensures
    ∙ ap Some (c.is_empty.ensures.0 c.if-not-is_empty.false) in (
      (subst (λ (w : Seen g.row.S.Denot). MayForget c.args.at w.chain) view c.in_ok-store.ensures.forgotten.0, subst (λ (w : Seen g.row.S.Denot). slice_get w.queues c.args.at ≡ Some []) view empty),
      record {
        forgotten = subst (λ (w : Seen g.row.S.Denot). HasForgotten c.args.at c.in_ok-store.store w.chain c.forget.new.self) view c.in_ok-store.ensures.forgotten.1;
        are = rw (← view, c.remove.ensures.items, c.leave.ensures.left) refl;
      },
    )

pub returns-clause-one_volume : goal.returns-clause-one_volume
returns-clause-one_volume g c = λ premise. rw (← c.self.view_is, c.remove.ensures.items, c.leave.ensures.left) (
    let empty : slice_get c.self.inside.queues.items c.args.at ≡ Some [] =
    slice_get_read c.self.inside.queues.items (length c.args.self.now.chain.members) c.args.at c.index.result.now (ap (λ (w : Seen g.row.S.Denot). length w.chain.members) (sym c.self.view_is) ∙ sym c.self.invariant.queues) c.requires c.index.ensures
    ∙ ap Some (c.is_empty.ensures.0 c.if-not-is_empty.false) in
    forgets_so g.S.StoreLike.about g.S.StoreLike.keeps g.S.StoreLike.may_leave_now _ _ c.args.at empty refl refl refl
    (subst (λ (x : Sessions). GoOn c.self.inside.clients.clients x.clients no_one no_one no_one []) c.leave.ensures.left c.leave.ensures.lawful) (c.in_ok-store.ensures.one_volume premise))
