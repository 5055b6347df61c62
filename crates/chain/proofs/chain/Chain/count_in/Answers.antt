use Rattle.std.proofs.Common.{refl, subst, sym}
use Rattle.chain.specs.Chain.{Chained}
use Rattle.chain.specs.Joining.{IsCopyAt}
use Rattle.chain.proofs.FloorSteps.{stands_now}
use Rattle.chain.proofs.JoiningSteps.{counts_in_goes}
use Rattle.chain.proofs.chain.Chain.count_in.Goals as goal

pub invariant_of-self : goal.invariant_of-self
invariant_of-self g c = rw (c.count_in.ensures, c.post.ensures) (record {
  members = c.self.invariant.members;
  all_links = c.self.invariant.all_links;
  all_submits = c.self.invariant.all_submits;
  links_inside = c.self.invariant.links_inside;
  submits_inside = c.self.invariant.submits_inside;
})

pub returns-clause-counted : goal.returns-clause-counted
returns-clause-counted g c = (c.may_count_in.ensures.0 c.if-not-may_count_in.false, rw (← c.self.view_is, c.count_in.ensures, c.post.ensures, c.slot-slot.ensures) refl)

pub returns-clause-one_volume : goal.returns-clause-one_volume
returns-clause-one_volume g c = λ premise copy v s shows alone stands.
    let i = c.self.inside in
    let old : Chained g.row.S.Denot = record { id = i.board.id; seat = i.board.seat; words = i.board.words; recorded = i.recorded; before = i.before; writing = i.writing; youngest = i.youngest; geometry = i.geometry; members = i.members.items; links = i.links; submits = i.submits } in
    rw (← c.self.view_is, c.count_in.ensures, c.post.ensures, c.slot-slot.ensures) (counts_in_goes g.S.StoreLike.about g.S.StoreLike.keeps g.S.StoreLike.may_leave_now old v (rw c.self.view_is shows) s (stands_now _ _ v s c.self.view_is stands) c.args.at
    c.args.store.now c.args.receipt (rw c.self.view_is (c.may_count_in.ensures.0 c.if-not-may_count_in.false)) alone (subst (λ (o : Chained g.row.S.Denot). IsCopyAt g.S.StoreLike.keeps c.args.at c.args.store.now o) (sym c.self.view_is) copy))
