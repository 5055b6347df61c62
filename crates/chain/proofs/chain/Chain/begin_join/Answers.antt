use Rattle.std.proofs.Common.{◌≡◌, ◌∙◌, false, true, refl, ap, subst, sym}
use Rattle.std.specs.Prelude.{None, Some}
use Rattle.configurations.specs.Record.{AreMembers}
use Rattle.chain.specs.Chain.{Chained}
use Rattle.chain.specs.Joining.{IsWithOne}
use Rattle.chain.proofs.Following.{is_none, not_none}
use Rattle.chain.proofs.JoiningSteps.{begins_join_goes}
use Rattle.chain.proofs.chain.Chain.begin_join.Given.{Over}
use Rattle.chain.proofs.chain.Chain.begin_join.Goals as goal
use Rattle.chain.proofs.chain.Chain.begin_join.Goals.{then-is_some-via-then-is_some, then-is_some-via-else-is_some+then-not-adds}

-- no record is being written
none_written : (g : Over) (c : goal.Joined-self g) → c.self.inside.writing ≡ None
none_written g c = is_none c.self.inside.writing (sym c.is_some.ensures ∙ c.if-is_some.false)

pub returns-clause-begun : goal.returns-clause-begun
returns-clause-begun g c = λ yes. (
  (c.adds.ensures.added.0 c.if-not-adds.false, sym (ap (λ (o : Chained g.row.S.Denot). o.writing) c.self.view_is) ∙ none_written g c),
  ap (λ (o : Chained g.row.S.Denot). record o { writing = Some c.args.next }) c.self.view_is,
)

pub returns-then-is_some-clause-idle : goal.returns-then-is_some-clause-idle
returns-then-is_some-clause-idle g c = λ no. (
  (λ may. elim c.then-is_some.branch [
    | then-is_some-via-then-is_some w ↦
        not_none c.self.inside.writing (sym c.is_some.ensures ∙ w.if-is_some.true) (ap (λ (o : Chained g.row.S.Denot). o.writing) c.self.view_is ∙ may.1)
    | then-is_some-via-else-is_some+then-not-adds w ↦ let clash : false ≡ true = sym w.if-not-adds.true ∙ w.adds.ensures.added.1 may.0 in absurd cc
  ]),
  refl,
)

pub returns-clause-one_volume : goal.returns-clause-one_volume
returns-clause-one_volume g c = λ premise yes v s shows of stands.
    let i = c.self.inside in
    let old : Chained g.row.S.Denot = record { id = i.board.id; seat = i.board.seat; words = i.board.words; recorded = i.recorded; before = i.before; writing = i.writing; youngest = i.youngest; geometry = i.geometry; members = i.members.items; links = i.links; submits = i.submits } in
    let about = g.S.StoreLike.about in
    let follows : IsWithOne about c.args.store.now old c.args.next = subst (λ (o : Chained g.row.S.Denot). IsWithOne about c.args.store.now o c.args.next) (sym c.self.view_is) (c.adds.ensures.added.0 c.if-not-adds.false) in
    rw (← c.self.view_is) (begins_join_goes about g.S.StoreLike.keeps g.S.StoreLike.may_leave_now old v (rw c.self.view_is shows) c.args.store.now c.args.next (subst (λ (o : Chained g.row.S.Denot). AreMembers o.recorded.members) (sym c.self.view_is) c.adds.ensures.were) follows (none_written g c) of)
