use Rattle.std.proofs.Common.{List, ℕ, ap, arith, drop, subst}
use Rattle.std.proofs.lemmas.Grind.{common_steps}
use Rattle.disk_model.specs.Part.{inside}
use Rattle.gate_journal.specs.declared.refusal.Refusal.TheVariants.{Damaged}
use Rattle.gate_journal.specs.Batch.{IsDamaged}
use Rattle.gate_journal.specs.Runs.{reads_then}
use Rattle.gate_journal.proofs.Lists.{same_refusal}
use Rattle.gate_journal.proofs.Walks.{are_more, begins_found, damaged_area, held_by, next_of}
use Rattle.gate_journal.proofs.walking.read_batches.Goals as goal

pub returns-in_err-batch-clause-damaged : goal.returns-in_err-batch-clause-damaged
returns-in_err-batch-clause-damaged g c = λ keeps is.
    let place = c.loop-batches.place in
    let told = same_refusal c.from_residual.result c.in_err-batch.field-0.0 Damaged c.from_residual.ensures.1 is in
    damaged_area c.args.blocks c.args.before c.loop-batches.batches.items (inside c.args.part (g.D.Disk.gives c.args.disk.now)) place.end place.front (c.loop-batches.invariant.begins keeps)
    (subst (λ (b : List ℕ). IsDamaged c.args.blocks place.front (drop place.end (inside c.args.part b))) (c.loop-batches.invariant.reads keeps).same (c.in_err-batch.ensures.damaged keeps told))

pub loop-batches-preserved : goal.loop-batches-preserved
loop-batches-preserved g c =
    let part = c.args.part in
    let place = c.loop-batches.place in
    let old = c.loop-batches.batches.items in
    let batch = c.in-Some.batch in
    let next = next_of c.args.blocks place.front batch c.in-Some.end c.in_ok-batch.field-0 c.in-Some.is c.in_ok-batch.ensures.next in
    record {
      begins = λ keeps.
          begins_found c.args.blocks c.args.before old (inside part (g.D.Disk.gives c.args.disk.now)) (inside part (g.D.Disk.gives c.loop-batches.disk)) place.end place.front (c.loop-batches.invariant.begins keeps)
          (ap (inside part) (c.loop-batches.invariant.reads keeps).same) batch c.in-Some.end c.in_ok-batch.field-0 c.in-Some.is (c.in_ok-batch.ensures.found keeps)
          c.push.new.self.items c.front.result c.in_ok-push.ensures.items c.front.ensures;
      reads = λ keeps. reads_then (c.loop-batches.invariant.reads keeps) (c.in_ok-batch.ensures.reads keeps);
      within = grind (arith, common_steps);
      are = are_more c.args.blocks c.args.before old place.front c.loop-batches.invariant.are batch next c.push.new.self.items c.front.result c.in_ok-push.ensures.items c.front.ensures;
      size = grind (arith, common_steps);
      fronts = (
        omega (arith, next.rises, c.loop-batches.invariant.fronts.0, c.front.ensures),
        omega (arith, next.limit, c.front.ensures),
      );
      done = grind (arith, common_steps);
      most = omega (arith, c.loop-batches.invariant.most, c.in_ok-batch.ensures.most);
    }

pub returns-clause-held : goal.returns-clause-held
returns-clause-held g c = λ keeps.
    let place = c.loop-batches.place in
    held_by c.args.blocks c.args.before c.loop-batches.batches.items (inside c.args.part (g.D.Disk.gives c.args.disk.now)) place.end place.front (c.loop-batches.invariant.begins keeps)
    (inside c.args.part (g.D.Disk.gives c.loop-batches.disk)) (ap (inside c.args.part) (c.loop-batches.invariant.reads keeps).same) c.in_ok-batch.field-0 c.in_default.not-Some (c.in_ok-batch.ensures.found keeps)
