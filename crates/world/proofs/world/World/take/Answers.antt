use Rattle.std.proofs.Common.{◌++◌, Some, ap, refl, sym, ◌∙◌}
use Rattle.std.specs.Option.{option_to_list}
use Rattle.world.proofs.CallSteps.{quiet_same}
use Rattle.world.proofs.TakenSteps.{alike_either, either_did, either_so, joined_taken, of_volume_at, queue_at, same_queues, taken_none}
use Rattle.world.proofs.world.World.take.Goals as goal

pub returns-in_err-demand-clause-none : goal.returns-in_err-demand-clause-none
returns-in_err-demand-clause-none g c =
    let here = queue_at _ _ c.args.at _ c.self.view_is c.self.invariant c.requires c.index_mut.ensures.value in
    let none = c.in_err-demand.ensures.none refl in
    rw (← c.self.view_is) (taken_none _ c.args.at _ c.take.new.self c.from_residual.result c.from_residual.ensures here none.0 none.1)

pub returns-in_err-demand-clause-one_volume : goal.returns-in_err-demand-clause-one_volume
returns-in_err-demand-clause-one_volume g c = λ premise. rw (← c.self.view_is) (
    let here = queue_at _ _ c.args.at _ c.self.view_is c.self.invariant c.requires c.index_mut.ensures.value in
    let none = c.in_err-demand.ensures.none refl in
    quiet_same _ _ c.from_residual.result c.from_residual.ensures (same_queues _ c.args.at _ c.take.new.self here (none.1 ∙ sym none.0)))

pub ask-replies-requires-clause-of_volume : goal.ask-replies-requires-clause-of_volume
ask-replies-requires-clause-of_volume g c =
    let here = queue_at _ _ c.args.at _ c.self.view_is c.self.invariant c.requires c.index_mut.ensures.value in
    of_volume_at _ c.args.at c.in_ok-demand.demand c.take.new.self (here ∙ ap Some c.in_ok-demand.ensures.first) c.self.invariant

pub invariant_of-self-2 : goal.invariant_of-self-2
invariant_of-self-2 g c =
    let here = queue_at _ _ c.args.at _ c.self.view_is c.self.invariant c.requires c.index_mut.ensures.value in
    joined_taken _ _ c.args.at c.in_ok-demand.demand c.take.new.self _ _ _ _ _ (here ∙ ap Some c.in_ok-demand.ensures.first) refl
    (alike_either g.S.StoreLike.keeps_model g.S.StoreLike.about g.S.StoreLike.failures g.S.StoreLike.keeps g.S.StoreLike.moment g.S.StoreLike.may_have_left_since c.args.at c.in_ok-demand.demand _ _ _ _ c.ask-replies.ensures.taken c.ask-replies.ensures.refused)
    c.tell_with.ensures.comes c.self.invariant

pub returns-clause-taken : goal.returns-clause-taken
returns-clause-taken g c = rw (← c.self.view_is) (
    let here = queue_at _ _ c.args.at _ c.self.view_is c.self.invariant c.requires c.index_mut.ensures.value in
    record {
      demand = c.in_ok-demand.demand;
      rest = c.take.new.self;
      replies = c.ask-replies.result.replies.items ++ option_to_list c.ask-replies.result.refused;
      here = here ∙ ap Some c.in_ok-demand.ensures.first;
      did = either_did g.S.StoreLike.keeps_model g.S.StoreLike.about g.S.StoreLike.failures g.S.StoreLike.keeps g.S.StoreLike.moment g.S.StoreLike.may_have_left_since c.args.at c.in_ok-demand.demand _ _ _ _ c.ask-replies.ensures.taken c.ask-replies.ensures.refused;
      tells = c.tell_with.ensures;
      are = refl;
    })

pub returns-clause-one_volume : goal.returns-clause-one_volume
returns-clause-one_volume g c = λ premise. rw (← c.self.view_is) (
    let here = queue_at _ _ c.args.at _ c.self.view_is c.self.invariant c.requires c.index_mut.ensures.value in
    either_so g.S.StoreLike.about g.S.StoreLike.keeps g.S.StoreLike.may_leave_now _ _ c.args.at c.in_ok-demand.demand c.take.new.self (here ∙ ap Some c.in_ok-demand.ensures.first) refl refl _ _ _ _ _ _ c.ask-replies.result.refused
    (c.ask-replies.ensures.takes premise) (c.ask-replies.ensures.one_volume premise) c.ask-replies.ensures.refused c.tell_with.ensures.comes)

pub returns-in_err-demand-clause-any_moment : goal.returns-in_err-demand-clause-any_moment
returns-in_err-demand-clause-any_moment g c = λ premise. rw c.from_residual.ensures tt

pub returns-clause-any_moment : goal.returns-clause-any_moment
returns-clause-any_moment g c = λ premise. rw (← c.self.view_is) (c.ask-replies.ensures.any_moment premise)
