use Rattle.std.proofs.Common.{◌≡◌, refl, sym, ◌∙◌}
use Rattle.std.specs.Prelude.{Some}
use Rattle.life.proofs.cutting.left_of_refused.Goals as goal

pub returns : goal.returns
returns c =
    let parts = c.into_parts-member.ensures.parts in
    let member : c.args.refused.member ≡ Some c.in-Some.member = sym parts.0 ∙ c.in-Some.is in
    let next : c.in-Some.member.incarnation ≡ c.args.next = sym c.number.ensures.number ∙ c.if-number-next.false in
    rw member (record {
      kept = λ is. (c.into_parts-member.result.1, parts.1, c.into_parts-member.ensures.only tt c.in-Some.member c.in-Some.is, refl);
      gone = λ other. absurd (other next);
    })
