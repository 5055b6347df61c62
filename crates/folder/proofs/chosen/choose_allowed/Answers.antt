use Rattle.std.proofs.Common.{◌≡◌, Err, IfErr, Result, ap, map, refl, subst}
use Rattle.recovery.specs.Choice.{NoneRecorded}
use Rattle.recovery.specs.declared.refusal.Refusal.TheVariants.{NotInChain}
use Rattle.folder.specs.Found.{returned_as}
use Rattle.folder.specs.declared.chosen.Chosen.{Chosen}
use Rattle.folder.specs.declared.refusal.Refusal.{Refusal}
use Rattle.folder.specs.declared.refusal.Refusal.TheVariants.{Choice}
use Rattle.folder.proofs.Opening.{passed_on}
use Rattle.folder.proofs.chosen.choose_allowed.Goals as goal

pub returns-in_err-chosen-clause-strangers : goal.returns-in_err-chosen-clause-strangers
returns-in_err-chosen-clause-strangers g c = λ is.
    let None : Refusal → Type 0 = λ r. r ≡ Choice NotInChain → NoneRecorded c.args.recorded.now.members (map (returned_as g.S.StoreLike.about) c.args.found.now) in
    let told = passed_on c.from_residual.result c.in_err-chosen.field-0.0 None c.from_residual.ensures.1 (λ e. c.in_err-chosen.ensures.strangers (ap (λ (r : Refusal). Err r) e)) in
    subst (λ (r : Result Chosen Refusal). IfErr r None) is told refl

pub returns-then-leaves_out-clause-others : goal.returns-then-leaves_out-clause-others
returns-then-leaves_out-clause-others g c = λ is.
    record {
      place = c.in_ok-chosen.chosen.place;
      there = (c.in_ok-chosen.ensures.member.store, c.in_ok-chosen.ensures.member.there);
      source = c.in_ok-chosen.ensures.source;
      leaves = c.leaves_out.ensures.out c.if-leaves_out.true;
    }
