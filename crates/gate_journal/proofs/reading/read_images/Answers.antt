use Rattle.std.proofs.Common.{List, ℕ, arith, drop, subst, sym}
use Rattle.std.proofs.lemmas.Grind.{common_steps}
use Rattle.std.proofs.lemmas.List.Elements.{All-append}
use Rattle.std.specs.Prelude.{All}
use Rattle.disk_model.specs.Part.{inside}
use Rattle.gate_journal.specs.declared.refusal.Refusal.TheVariants.{Damaged}
use Rattle.gate_journal.specs.Batch.{EncodesImage, InTurn, IsWhole}
use Rattle.gate_journal.specs.Reading.{HasNoImage, HoldsTo}
use Rattle.gate_journal.specs.Runs.{reads_then}
use Rattle.gate_journal.proofs.Images.{no_more, some_more}
use Rattle.gate_journal.proofs.Lists.{same_refusal}
use Rattle.gate_journal.proofs.reading.read_images.Goals as goal

pub returns-in_err-more-clause-damaged : goal.returns-in_err-more-clause-damaged
returns-in_err-more-clause-damaged g c = λ keeps is.
    let told = same_refusal c.from_residual.result c.in_err-more.field-0.0 Damaged c.from_residual.ensures.1 is in
    let none = subst (λ (b : List ℕ). HasNoImage (drop c.loop-wanted.place (inside c.args.part b))) (c.loop-wanted.invariant.reads keeps).same (c.in_err-more.ensures.damaged keeps told) in
    no_more (inside c.args.part (g.D.Disk.gives c.args.disk.now)) c.args.at c.loop-wanted.place c.args.count c.loop-wanted.images.items (c.loop-wanted.invariant.images keeps) (omega (arith, c.loop-wanted.invariant.count, c.loop-wanted-test.true)) c.loop-wanted.invariant.whole none

pub loop-wanted-preserved : goal.loop-wanted-preserved
loop-wanted-preserved g c =
    let area = inside c.args.part (g.D.Disk.gives c.args.disk.now) in
    let place = c.loop-wanted.place in
    let old = c.loop-wanted.images.items in
    let more = c.in_ok-more.more.items in
    let behind = c.in_ok-more.behind in
    record {
      images = λ keeps. subst (HoldsTo (InTurn EncodesImage) (drop c.args.at area) area c.args.at behind) (sym c.in_ok-append.ensures.items)
          (some_more area c.args.at place behind old more (c.loop-wanted.invariant.images keeps)
          (subst (λ (b : List ℕ). HoldsTo (InTurn EncodesImage) (drop place (inside c.args.part b)) (inside c.args.part b) place behind more) (c.loop-wanted.invariant.reads keeps).same (c.in_ok-more.ensures.images keeps)));
      reads = λ keeps. reads_then (c.loop-wanted.invariant.reads keeps) (c.in_ok-more.ensures.reads keeps);
      count = grind (arith, common_steps);
      within = (omega (arith, c.loop-wanted.invariant.within.0, c.in_ok-more.ensures.within.0), c.in_ok-more.ensures.within.1);
      whole = subst (All IsWhole) (sym c.in_ok-append.ensures.items) (All-append IsWhole old more c.loop-wanted.invariant.whole c.in_ok-more.ensures.whole);
      size = grind (arith, common_steps);
      done = grind (arith, common_steps);
      most = omega (arith, c.loop-wanted.invariant.most, c.in_ok-more.ensures.most);
    }
