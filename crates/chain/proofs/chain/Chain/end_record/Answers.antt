use Rattle.std.proofs.Common.{◌≡◌, ◌∙◌, refl, ap, sym, subst}
use Rattle.std.specs.Prelude.{None, Option, Some}
use Rattle.std.proofs.lemmas.Option.{same_Some}
use Rattle.configurations.specs.Record.{Record}
use Rattle.chain.specs.Chain.{Chained}
use Rattle.chain.specs.Recording.{IsNextOf, MayEnd}
use Rattle.chain.proofs.RecordingSteps.{ends_goes}
use Rattle.chain.proofs.chain.Chain.end_record.Given.{Over}
use Rattle.chain.proofs.chain.Chain.end_record.Goals as goal

-- there was one, which was taken
not_taken : (g : Over) (c : goal.In_default g) → ⊥
not_taken g c =
    let may = c.may_end.ensures.0 c.if-not-may_end.false in
    let clash : ◌≡◌ {A = Option Record} None (Some may.next) = sym c.in_default.is ∙ c.take.ensures.value ∙ ap (λ (o : Chained g.row.S.Denot). o.writing) c.self.view_is ∙ may.begun in
    absurd cc

pub returns-in-Some-clause-ended : goal.returns-in-Some-clause-ended
returns-in-Some-clause-ended g c = λ yes. (
  c.may_end.ensures.0 c.if-not-may_end.false,
  record {
    next = c.in-Some.next;
    begun = sym (ap (λ (o : Chained g.row.S.Denot). o.writing) c.self.view_is) ∙ sym c.take.ensures.value ∙ c.in-Some.is;
    are = rw (← c.self.view_is, c.replace.ensures.value, c.replace.ensures.after, c.take.ensures.after) refl;
  },
)

pub returns-in-Some-clause-one_volume : goal.returns-in-Some-clause-one_volume
returns-in-Some-clause-one_volume g c = λ premise v s events shows alone stands put_out.
    let i = c.self.inside in
    let old : Chained g.row.S.Denot = record { id = i.board.id; seat = i.board.seat; words = i.board.words; recorded = i.recorded; before = i.before; writing = i.writing; youngest = i.youngest; geometry = i.geometry; members = i.members.items; links = i.links; submits = i.submits } in
    let may : MayEnd old = subst (λ (o : Chained g.row.S.Denot). MayEnd o) (sym c.self.view_is) (c.may_end.ensures.0 c.if-not-may_end.false) in
    let begun : old.writing ≡ Some c.in-Some.next = sym c.take.ensures.value ∙ c.in-Some.is in
    let follows = subst (IsNextOf old) (same_Some may.next c.in-Some.next (sym may.begun ∙ begun)) may.follows in
    rw (← c.self.view_is, c.replace.ensures.value, c.replace.ensures.after, c.take.ensures.after)
    (ends_goes g.S.StoreLike.about g.S.StoreLike.keeps g.S.StoreLike.may_leave_now old v events (rw c.self.view_is shows) alone c.in-Some.next begun follows may.told put_out)

pub returns-in_default-clause-ended : goal.returns-in_default-clause-ended
returns-in_default-clause-ended g c = absurd (not_taken g c)

pub returns-in_default-clause-one_volume : goal.returns-in_default-clause-one_volume
returns-in_default-clause-one_volume g c = absurd (not_taken g c)
