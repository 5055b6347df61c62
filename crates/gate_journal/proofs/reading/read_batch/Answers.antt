use Rattle.std.proofs.Common.{◌+◌, ◌∷◌, List, ℕ, drop, subst}
use Rattle.disk_model.specs.Part.{inside}
use Rattle.gate_journal.specs.declared.refusal.Refusal.TheVariants.{Damaged}
use Rattle.gate_journal.specs.Reading.{HasNoBatch}
use Rattle.gate_journal.proofs.Bodies.{damaged_from}
use Rattle.gate_journal.proofs.Lists.{same_refusal}
use Rattle.gate_journal.proofs.reading.read_batch.Goals as goal

pub returns-in_err-found-clause-damaged : goal.returns-in_err-found-clause-damaged
returns-in_err-found-clause-damaged g c = λ keeps is.
    let area = inside c.args.part (g.D.Disk.gives c.args.disk.now) in
    let told = same_refusal c.from_residual-in_err-found.result c.in_err-found.field-0.0 Damaged c.from_residual-in_err-found.ensures.1 is in
    let none = subst (λ (b : List ℕ). HasNoBatch c.args.blocks c.args.before (1 ∷ drop (c.args.at + 1) (inside c.args.part b))) (c.read_gate.ensures.reads keeps).same (c.in_err-found.ensures.damaged keeps told) in
    damaged_from c.args.blocks c.args.before c.in_ok-read_gate.field-0 (drop c.args.at area) (drop (c.args.at + 1) area) (c.in_ok-read_gate.ensures.gate keeps) c.if-branch-ne-OPEN.false none
