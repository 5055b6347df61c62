use Rattle.std.proofs.Common.{◌≡◌, ◌∙◌, refl, ap, sym}
use Rattle.std.specs.Prelude.{None}
use Rattle.chain_steps.specs.Place.{incarnation_in}
use Rattle.chain.specs.Chain.{Chained}
use Rattle.chain.proofs.Following.{is_none}
use Rattle.chain.proofs.RecordingSteps.{counts_out_goes}
use Rattle.chain.proofs.chain.Chain.count_out.Given.{Over}
use Rattle.chain.proofs.chain.Chain.count_out.Goals as goal

none_written : (g : Over) (c : goal.After-count_out g) → c.self.inside.writing ≡ None
none_written g c = is_none c.self.inside.writing (sym c.is_some.ensures ∙ c.if-is_some.false)

gone : (g : Over) (c : goal.After-count_out g) → incarnation_in c.self.inside.recorded c.args.slot ≡ None
gone g c = sym c.incarnation_in.ensures ∙ is_none c.incarnation_in.result (sym c.is_some-else-is_some.ensures ∙ c.if-is_some-2.false)

pub invariant_of-self : goal.invariant_of-self
invariant_of-self g c = rw c.count_out.ensures.words (record {
  members = c.self.invariant.members;
  all_links = c.self.invariant.all_links;
  all_submits = c.self.invariant.all_submits;
  links_inside = c.self.invariant.links_inside;
  submits_inside = c.self.invariant.submits_inside;
})

pub returns-clause-out : goal.returns-clause-out
returns-clause-out g c = λ yes. (
  (
    sym (ap (λ (o : Chained g.row.S.Denot). incarnation_in o.recorded c.args.slot) c.self.view_is) ∙ gone g c,
    sym (ap (λ (o : Chained g.row.S.Denot). o.writing) c.self.view_is) ∙ none_written g c,
  ),
  rw (← c.self.view_is, c.count_out.ensures.words) refl,
)

pub returns-clause-one_volume : goal.returns-clause-one_volume
returns-clause-one_volume g c = λ premise v s events shows alone stands put_out.
    let i = c.self.inside in
    let old : Chained g.row.S.Denot = record { id = i.board.id; seat = i.board.seat; words = i.board.words; recorded = i.recorded; before = i.before; writing = i.writing; youngest = i.youngest; geometry = i.geometry; members = i.members.items; links = i.links; submits = i.submits } in
    rw (← c.self.view_is, c.count_out.ensures.words) (counts_out_goes g.S.StoreLike.about g.S.StoreLike.keeps g.S.StoreLike.may_leave_now old v events (rw c.self.view_is shows) alone c.args.slot (gone g c) (none_written g c) c.count_out.ensures.others put_out)
