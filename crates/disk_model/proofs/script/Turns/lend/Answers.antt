use Rattle.std.proofs.Common.{rules, ◌≡◌, ◌≤◌, ℕ, List, [], sym, subst}
use Rattle.disk_model.specs.Counts.{most_by}
use Rattle.disk_model.specs.declared.script.Event.{Event}
use Rattle.disk_model.proofs.Most.{most_of_none}
use Rattle.disk_model.proofs.script.Turns.lend.Goals as goal

pub returns-clause-most : goal.returns-clause-most
returns-clause-most c = λ stopped.
    let was = c.args.self.now in
    let home = c.replace.new.dest in
    let none : home.script ≡ [] = search rules in
    let same : home.failures ≡ was.failures = search rules in
    subst (λ (script : List Event). most_by script stopped home.failures ≤ most_by was.script stopped was.failures) (sym none)
    (subst (λ (n : ℕ). most_by [] stopped n ≤ most_by was.script stopped was.failures) (sym same) (most_of_none was.script stopped was.failures))
