use Rattle.std.proofs.Common.{ap, refl, sym, ◌∙◌}
use Rattle.std.specs.Prelude.{Some, is_some}
use Rattle.candidate.specs.Candidate.{Refused}
use Rattle.candidate.proofs.giving.Candidate+Store+D+D.refuse.Goals as goal

pub of-requires : goal.of-requires
of-requires g c = λ keeps bytes left meaning means. absurd (c.into_disk.ensures.unmeant keeps bytes left meaning means)

pub returns : goal.returns
returns g c = record {
  before = c.in-Copying.copying;
  left = c.of.result;
  was = sym c.replace.ensures.value ∙ c.in-Copying.is;
  is = refl;
  its = c.into_disk.ensures.its ∙ ap Some (sym (ap (λ (r : Refused g.row.D.Denot). r.disk) c.of.ensures));
  known = ap (λ (r : Refused g.row.D.Denot). is_some r.member) c.of.ensures;
}
